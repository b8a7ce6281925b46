use Rattle.std.proofs.Common.{◌≡◌, ◌<◌, true, false, length, ap, sym, ◌∙◌, arith}
use Rattle.std.specs.List.{list_all}
use Rattle.cml_value.specs.Group.{choose, groups, bases, scopes, nacks_of}
use Rattle.cml_value.specs.GroupViews.{plain_group}
use Rattle.cml_group.proofs.Heights.{member_falls}
use Rattle.cml_book.proofs.Walks.{bases_go_on, nacks_go_on, leaf_passes, leaf_plain}
use Rattle.cml_book.proofs.walk.+walk_whole.Goals as goal
use Rattle.cml_book.proofs.walk.+walk_whole.Goals.{then-found, else-found, in-Leaf-kind+in_ok-found-in-Leaf-kind, in_default+in_ok-found-in_default}

pub walk_whole-requires : goal.walk_whole-requires
walk_whole-requires g t c lives outlive =
    let gs = c.deref-g-items.result.now in
    let whole : choose (groups gs) ≡ c.args.group.now =
    ap (λ v. choose (groups v)) (c.deref-g-items.ensures.value ∙ ap (λ v. v.items) c.deref.ensures) ∙ ap plain_group (sym c.in-Choose.is) ∙ c.kind.ensures in
    (omega (arith, member_falls gs c.loop-g.g-index c.g-item.result c.args.group.now (omega arith) c.g-item.is whole), outlive)

pub loop-g-preserved : goal.loop-g-preserved
loop-g-preserved g t c =
    let gs = c.deref-g-items.result.now in
    let at = c.loop-g.g-index in
    let below : at < length gs = omega arith in
    let p = g.P.BaseTest.passes c.args.test.now in
    let item = c.g-item.result in
    let passes : list_all p (bases item) ≡ true = elim c.match-kind-2.branch [
      | in-Leaf-kind+in_ok-found-in-Leaf-kind w ↦ leaf_passes p _ item (rw w.in-Leaf-kind.is at c.kind-in-loop-g.ensures) w.in_ok-found-in-Leaf-kind.ensures.passes
      | in_default+in_ok-found-in_default w ↦ w.in_ok-found-in_default.ensures.bases
    ] in (
      sym (bases_go_on p gs at item below c.g-item.is passes) ∙ c.loop-g.invariant.0,
      elim c.if-found.branch [
        | then-found v ↦ λ off. (cc)
        | else-found v ↦ λ off.
            let plain : list_all (λ k. false) (nacks_of (scopes item)) ≡ true = elim c.match-kind-2.branch [
              | in-Leaf-kind+in_ok-found-in-Leaf-kind w ↦ leaf_plain _ item (rw w.in-Leaf-kind.is at c.kind-in-loop-g.ensures)
              | in_default+in_ok-found-in_default w ↦ w.in_ok-found-in_default.ensures.scopes (sym w.found-is ∙ v.if-found.false)
            ] in
            sym (nacks_go_on (λ k. false) gs at item below c.g-item.is plain) ∙ c.loop-g.invariant.1 (sym v.scoped-is ∙ off)
      ],
    )
