use Rattle.cml_verify.proofs.kept.Kept.ends.Goals as goal

pub returns : goal.returns
returns c = rw (← c.self.view_is) c.self.invariant.0
