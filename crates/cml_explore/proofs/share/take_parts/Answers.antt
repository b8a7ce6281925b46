use Rattle.std.proofs.Common.{sym, subst, arith}
use Rattle.cml_explore.specs.Merges.{ArePartsTaken}
use Rattle.cml_explore.proofs.PlaceLemmas.{taken_more}
use Rattle.cml_explore.proofs.share.take_parts.Goals as goal

pub taking-preserved : goal.taking-preserved
taking-preserved c =
    subst (ArePartsTaken c.args.program.now c.args.asked.now c.args.round c.args.count) (sym c.in_ok-push.ensures.items)
    (taken_more c.args.program.now c.args.asked.now c.args.round c.args.count c.taking.taken.items
    c.fetch_add-number.result c.in_ok-part.part c.taking.invariant (omega arith)
    c.in_ok-part.ensures)
