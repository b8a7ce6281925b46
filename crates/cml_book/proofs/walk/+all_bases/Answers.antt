use Rattle.std.proofs.Common.{◌≡◌, true, ap, sym, ◌∙◌, arith}
use Rattle.std.specs.List.{list_all}
use Rattle.cml_value.specs.Group.{choose, groups, bases}
use Rattle.cml_value.specs.GroupViews.{plain_group}
use Rattle.cml_group.proofs.Heights.{member_falls}
use Rattle.cml_book.proofs.Walks.{bases_go_on, leaf_passes}
use Rattle.cml_book.proofs.walk.+all_bases.Goals.{in-Leaf-kind, in_default}
use Rattle.cml_book.proofs.walk.+all_bases.Goals as goal

pub all_bases-holds-requires : goal.all_bases-holds-requires
all_bases-holds-requires g t c lives outlive =
    let gs = c.deref-g-items.result.now in
    let whole : choose (groups gs) ≡ c.args.group.now =
    ap (λ v. choose (groups v)) (c.deref-g-items.ensures.value ∙ ap (λ v. v.items) c.deref.ensures) ∙ ap plain_group (sym c.in-Choose.is) ∙ c.kind.ensures in
    (omega (arith, member_falls gs c.loop-g.g-index c.g-item.result c.args.group.now (omega arith) c.g-item.is whole), outlive)

pub loop-g-preserved : goal.loop-g-preserved
loop-g-preserved g t c =
    let p = g.P.BaseTest.passes c.args.test.now in
    let item = c.g-item.result in
    let passes : list_all p (bases item) ≡ true = elim c.match-kind-2.branch [
      | in-Leaf-kind w ↦ leaf_passes p _ item (rw w.in-Leaf-kind.is at c.kind-in-loop-g.ensures) (sym w.passes-holds.ensures ∙ sym w.holds-is ∙ c.if-not-holds.false)
      | in_default w ↦ sym w.all_bases-holds.ensures ∙ sym w.holds-is ∙ c.if-not-holds.false
    ] in
    sym (bases_go_on p c.deref-g-items.result.now c.loop-g.g-index item (omega arith) c.g-item.is passes) ∙ c.loop-g.invariant
