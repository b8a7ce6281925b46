use Rattle.std.proofs.Common.{ap, sym, ◌∙◌}
use Rattle.cml_value.specs.Group.{PlainGroup, lost}
use Rattle.cml_group.specs.Leaves.{numbers}
use Rattle.cml_group.proofs.Listed.{flat_lost}
use Rattle.cml_group.proofs.flat.Flat.lost.Goals as goal

pub returns-in-None : goal.returns-in-None
returns-in-None c =
    let flat = rw c.in-None.is at c.self.invariant.1 in
    ap numbers c.new.ensures.items
    ∙ sym (ap (λ (x : PlainGroup). lost x c.args.n) (sym c.self.view_is) ∙ flat_lost c.self.inside.group c.args.n flat)
