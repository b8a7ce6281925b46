use Rattle.std.proofs.Common.{length, ap, sym, ◌∙◌}
use Rattle.cml_value.specs.Group.{scopes, nacks_of}
use Rattle.cml_group.proofs.Listed.{flat_scopes}
use Rattle.cml_group.proofs.flat.Flat.scopes.Goals as goal

pub returns-in-None-clause-nacks : goal.returns-in-None-clause-nacks
returns-in-None-clause-nacks c =
    let flat = rw c.in-None.is at c.self.invariant.1 in
    sym (ap nacks_of (ap scopes (sym c.self.view_is) ∙ flat_scopes c.self.inside.group flat))

pub returns-in-None-clause-len : goal.returns-in-None-clause-len
returns-in-None-clause-len c =
    let flat = rw c.in-None.is at c.self.invariant.1 in
    sym (ap length (ap scopes (sym c.self.view_is) ∙ flat_scopes c.self.inside.group flat))
