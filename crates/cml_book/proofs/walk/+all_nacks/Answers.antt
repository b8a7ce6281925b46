use Rattle.std.proofs.Common.{◌≡◌, ap, sym, ◌∙◌, arith}
use Rattle.cml_value.specs.Group.{choose, groups}
use Rattle.cml_value.specs.GroupViews.{plain_group}
use Rattle.cml_group.proofs.Heights.{member_falls}
use Rattle.cml_book.proofs.Walks.{nacks_go_on}
use Rattle.cml_book.proofs.walk.+all_nacks.Goals as goal

pub all_nacks-requires : goal.all_nacks-requires
all_nacks-requires g t c lives outlive =
    let gs = c.deref-g-items.result.now in
    let whole : choose (groups gs) ≡ c.args.group.now =
    ap (λ v. choose (groups v)) (c.deref-g-items.ensures.value ∙ ap (λ v. v.items) c.deref.ensures) ∙ ap plain_group (sym c.in-Choose.is) ∙ c.kind.ensures in
    (omega (arith, member_falls gs c.loop-g.g-index c.g-item.result c.args.group.now (omega arith) c.g-item.is whole), outlive)

pub loop-g-preserved : goal.loop-g-preserved
loop-g-preserved g t c =
    let passes = sym c.all_nacks.ensures ∙ c.if-not-all_nacks.false in
    let rest = nacks_go_on (g.P.NackTest.passes c.args.test.now) c.deref-g-items.result.now c.loop-g.g-index c.g-item.result (omega arith) c.g-item.is passes in
    sym rest ∙ c.loop-g.invariant
