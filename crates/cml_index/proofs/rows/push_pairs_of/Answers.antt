use Rattle.std.proofs.Common.{◌++◌, ◌∙◌, ap}
use Rattle.cml_value.specs.Group.{bases}
use Rattle.cml_scan.specs.Scan.{offers_of, pairs_with}
use Rattle.cml_index.specs.Heads.{offer_at}
use Rattle.cml_index.proofs.OneLeaf.{pair_step}
use Rattle.cml_index.proofs.rows.push_pairs_of.Goals as goal

pub loop-leaf-preserved : goal.loop-leaf-preserved
loop-leaf-preserved c =
    let os = offers_of c.args.core.now.entries.items in
    pair_step os c.args.entry.now.thread c.loop-leaf.leaf (bases c.args.entry.now.group) c.waits-wait-items.result.now _
    c.loop-leaf.rows.items c.push_pairs.new.rows.items c.waits-wait-items.ensures.same c.loop-leaf-test.true
    (λ b is. c.in_ok-push_pairs.ensures b is ∙ ap (λ p. c.loop-leaf.rows.items ++ pairs_with os (offer_at p b)) c.place.ensures)
    ∙ c.loop-leaf.invariant
