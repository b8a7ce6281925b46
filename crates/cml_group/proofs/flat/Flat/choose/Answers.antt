use Rattle.std.proofs.Common.{◌<◌, Some, List, ap, sym, ◌∙◌, subst}
use Rattle.cml_value.specs.Value.{PlainFunction}
use Rattle.cml_value.specs.Group.{PlainGroup, leaf_count, lost}
use Rattle.cml_group.specs.Leaves.{pick, numbers}
use Rattle.cml_group.proofs.Listed.{flat_leaf, flat_lost}
use Rattle.cml_group.proofs.flat.Flat.choose.Goals as goal

pub returns-in-None-clause-leaf : goal.returns-in-None-clause-leaf
returns-in-None-clause-leaf c =
    let g = c.self.inside.group in
    let flat = rw c.in-None.is at c.self.invariant.1 in
    let within = subst (λ (x : PlainGroup). c.args.n < leaf_count x) (sym c.self.view_is) c.requires in
    ap (λ (x : PlainGroup). pick x c.args.n) (sym c.self.view_is)
    ∙ flat_leaf g c.args.n c.own_base.result flat within c.own_base.ensures
    ∙ ap (λ (fs : List PlainFunction). Some (record { base = c.own_base.result; wraps = fs })) (sym c.new.ensures.items)

pub returns-in-None-clause-lost : goal.returns-in-None-clause-lost
returns-in-None-clause-lost c =
    let flat = rw c.in-None.is at c.self.invariant.1 in
    ap numbers c.new-in-None.ensures.items
    ∙ sym (ap (λ (x : PlainGroup). lost x c.args.n) (sym c.self.view_is) ∙ flat_lost c.self.inside.group c.args.n flat)
