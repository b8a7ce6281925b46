use Rattle.cml_group.proofs.force.Forcing.copy.Goals as goal

pub invariant_of-result : goal.invariant_of-result
invariant_of-result c = c.in_ok-part.ensures.room _ c.self.invariant
