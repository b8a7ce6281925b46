use Rattle.std.proofs.Common.{◌≡◌, ◌<◌, Some, List, length, slice_get, ap, sym, ◌∙◌, subst}
use Rattle.std.specs.Option.{option_map}
use Rattle.std.proofs.lemmas.Option.{slice_get_read}
use Rattle.cml_value.specs.Group.{PlainGroup, PlainLeaf, leaves, leaf_count}
use Rattle.cml_group.specs.Leaves.{leaf_wraps}
use Rattle.cml_group.proofs.Listed.{flat_wraps}
use Rattle.cml_group.proofs.flat.Flat.wraps.Goals as goal

pub returns-in-None : goal.returns-in-None
returns-in-None c =
    let flat = rw c.in-None.is at c.self.invariant.1 in
    let within = subst (λ (g : PlainGroup). c.args.n < leaf_count g) (sym c.self.view_is) c.requires in
    ap (λ (g : PlainGroup). leaf_wraps g c.args.n) (sym c.self.view_is) ∙ flat_wraps c.self.inside.group c.args.n flat within

pub returns-in-Some : goal.returns-in-Some
returns-in-Some c =
    let laid = rw c.in-Some.is at c.self.invariant.2 in
    let ls = c.deref.result.now.leaves.items in
    let kept : ls ≡ leaves c.args.self.now = ap (λ b. b.leaves.items) c.deref.ensures ∙ laid.leaves_are ∙ ap leaves c.self.view_is in
    let read : slice_get ls c.args.n ≡ Some c.index.result.now =
    slice_get_read ls (leaf_count c.args.self.now) c.args.n c.index.result.now (ap length (sym kept)) c.requires c.index.ensures in
    ap (λ (xs : List PlainLeaf). option_map (λ l. l.wraps) (slice_get xs c.args.n)) (sym kept)
    ∙ ap (option_map (λ (l : PlainLeaf). l.wraps)) read
    ∙ ap Some (ap (λ (l : PlainLeaf). l.wraps) (sym c.behind-deref.view_is) ∙ sym c.deref-in-Some.ensures.value)
