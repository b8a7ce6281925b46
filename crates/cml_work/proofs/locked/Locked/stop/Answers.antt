use Rattle.cml_work.proofs.Picking.{chooses_stopped}
use Rattle.cml_work.proofs.locked.Locked.stop.Goals as goal

pub invariant_of-self : goal.invariant_of-self
invariant_of-self g c = (c.self.invariant.0, c.self.invariant.1, c.self.invariant.2, chooses_stopped _ _ _ _ _ c.self.invariant.3)
