use Rattle.std.proofs.Common.{◌≡◌, ◌∙◌, length, arith}
use Rattle.std.specs.Vec.{vec_len}
use Rattle.cml_explore.proofs.EndLemmas.{ranks_next}
use Rattle.cml_explore.proofs.ends.end_ranks_of.Goals as goal

pub loop-end-preserved : goal.loop-end-preserved
loop-end-preserved c =
    let same : vec_len c.loop-end.ranks ≡ length c.loop-end.ranks.items = omega (arith, c.loop-end.ranks.ok.0) in
    ranks_next c.args.told.now c.loop-end.end-index c.end-item.result c.len-number.result c.loop-end.ranks.items c.push.new.self.items (omega arith) c.end-item.is
    (c.len-number.ensures ∙ same) c.in_ok-push.ensures.items c.loop-end.invariant
