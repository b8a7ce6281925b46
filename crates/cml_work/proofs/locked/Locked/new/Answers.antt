use Rattle.std.proofs.Common.{[], refl}
use Rattle.cml_work.proofs.Going.{follows_itself}
use Rattle.cml_work.proofs.MarkSteps.{keeps_known, knows}
use Rattle.cml_work.proofs.Picking.{chooses_itself}
use Rattle.cml_work.proofs.locked.Locked.new.Goals as goal

pub invariant_of-result : goal.invariant_of-result
invariant_of-result g c = (
  follows_itself _ _ c.requires.hub,
  keeps_known _ [] c.args.keeper c.requires.keeper,
  knows _ [] c.args.hub.reports c.args.keeper c.requires.keeper (c.args.hub.reports, refl),
  chooses_itself (record { picks = g.C.Chooser.picks; next = g.C.Chooser.next }) c.args.chooser g.O.Opening.opening g.O.Opening.picks c.args.hub c.requires.hub c.requires.picks,
)
