use Rattle.std.proofs.Common.{◌≡◌, [], length, ap, sym, ◌∙◌, arith}
use Rattle.cml_value.specs.Group.{scopes}
use Rattle.cml_group.proofs.Listed.{flat_scopes}
use Rattle.cml_group.proofs.flat.Flat.loses.Goals as goal

pub unreachable-requires : goal.unreachable-requires
unreachable-requires c =
    let flat = rw c.in-None.is at c.self.invariant.1 in
    let none : scopes c.args.self.now ≡ [] = ap scopes (sym c.self.view_is) ∙ flat_scopes c.self.inside.group flat in
    let e = ap length none in
    omega (arith, c.requires.scope)
