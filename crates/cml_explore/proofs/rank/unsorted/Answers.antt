use Rattle.std.proofs.Common.{◌∙◌, ◌++◌, ◌∷◌, [], ap, arith}
use Rattle.cml_explore.specs.ClassViews.{plain_class}
use Rattle.cml_explore.proofs.RankLemmas.{ranks_more}
use Rattle.cml_explore.proofs.rank.unsorted.Goals as goal

pub loop-k-preserved : goal.loop-k-preserved
loop-k-preserved c =
    ranks_more c.args.classes.now c.loop-k.k (plain_class c.class.result) c.loop-k.ranks.items c.push.new.self.items (omega arith) c.class.ensures c.loop-k.invariant
    (c.in_ok-push.ensures.items ∙ ap (λ n. c.loop-k.ranks.items ++ (record { 0 = n }, c.loop-k.k) ∷ []) c.runs.ensures)
