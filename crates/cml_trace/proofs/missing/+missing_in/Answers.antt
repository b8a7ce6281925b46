use Rattle.std.proofs.Common.{◌≡◌, ap, sym, ◌∙◌, arith}
use Rattle.cml_value.specs.Group.{choose, groups}
use Rattle.cml_value.specs.GroupViews.{plain_group}
use Rattle.cml_group.proofs.Heights.{member_falls}
use Rattle.cml_trace.proofs.missing.+missing_in.Goals as goal

pub missing_in-found-requires : goal.missing_in-found-requires
missing_in-found-requires g t c lives outlive =
    let gs = c.deref-member-items.result.now in
    let whole : choose (groups gs) ≡ c.args.group.now =
    ap (λ v. choose (groups v)) (c.deref-member-items.ensures.value ∙ ap (λ v. v.items) c.deref.ensures) ∙ ap plain_group (sym c.in-Choose.is) ∙ c.kind.ensures in
    (omega (arith, member_falls gs c.loop-member.member-index c.member-item.result c.args.group.now (omega arith) c.member-item.is whole), outlive)
