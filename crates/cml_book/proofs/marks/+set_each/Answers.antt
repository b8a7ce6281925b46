use Rattle.std.proofs.Common.{◌≡◌, ◌+◌, ◌&&◌, drop, ap, sym, ◌∙◌, arith}
use Rattle.cml_value.specs.Group.{choose, groups, scopes, nacks_of}
use Rattle.cml_value.specs.GroupViews.{plain_group}
use Rattle.cml_group.proofs.Heights.{member_falls}
use Rattle.cml_book.specs.Sync.{with_each}
use Rattle.cml_book.specs.NackMarks.{was_each_other}
use Rattle.cml_book.proofs.Walks.{nacks_of_all, set_goes_on, other_goes_on, other_fails, other_holds}
use Rattle.cml_book.proofs.marks.+set_each.Goals as goal
use Rattle.cml_book.proofs.marks.+set_each.Goals.{then-not-set_each, else-not-set_each}

pub set_each-requires : goal.set_each-requires
set_each-requires t c =
    let gs = c.deref-g-items.result.now in
    let whole : choose (groups gs) ≡ c.args.group.now =
    ap (λ v. choose (groups v)) (c.deref-g-items.ensures.value ∙ ap (λ v. v.items) c.deref.ensures) ∙ ap plain_group (sym c.in-Choose.is) ∙ c.kind.ensures in
    (omega (arith, member_falls gs c.loop-g.g-index c.g-item.result c.args.group.now (omega arith) c.g-item.is whole), tt)

pub loop-g-preserved : goal.loop-g-preserved
loop-g-preserved t c =
    let gs = c.deref-g-items.result.now in
    let rest = nacks_of_all (groups (drop (c.loop-g.g-index + 1) gs)) in
    let leads = set_goes_on c.args.so gs c.loop-g.g-index c.g-item.result c.loop-g.marks.items (omega arith) c.g-item.is in
    let other = other_goes_on c.args.so gs c.loop-g.g-index c.g-item.result c.loop-g.marks.items (omega arith) c.g-item.is in
    let split = other ∙ ap (λ ms. was_each_other c.args.so (nacks_of (scopes c.g-item.result)) c.loop-g.marks.items && was_each_other c.args.so rest ms) (sym c.set_each.ensures.marks) in
    record {
      leads = ap (λ ms. with_each rest c.args.so ms) c.set_each.ensures.marks ∙ sym leads ∙ c.loop-g.invariant.leads;
      other = elim c.if-not-set_each.branch [
        | then-not-set_each w ↦ rw w.all-is (other_fails _ _ _ _ _ (sym c.set_each.ensures.other ∙ w.if-not-set_each.true) split c.loop-g.invariant.other)
        | else-not-set_each w ↦ rw w.all-is (other_holds _ _ _ _ _ (sym c.set_each.ensures.other ∙ w.if-not-set_each.false) split c.loop-g.invariant.other)
      ];
    }
