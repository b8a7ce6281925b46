use Rattle.cml_work.proofs.Going.{follows_slice, reports_after_slice}
use Rattle.cml_work.proofs.MarkSteps.{begins_trans}
use Rattle.cml_work.proofs.Picking.{chooses_slice}
use Rattle.cml_work.proofs.locked.Locked.give.Goals as goal

pub invariant_of-self : goal.invariant_of-self
invariant_of-self g c = (
  follows_slice _ _ _ _ _ c.self.invariant.0 c.give_own.ensures,
  c.self.invariant.1,
  begins_trans _ _ _ (reports_after_slice _ _ _ _ c.give_own.ensures) c.self.invariant.2,
  chooses_slice _ _ _ _ _ _ _ _ c.self.invariant.3 c.give_own.ensures,
)
