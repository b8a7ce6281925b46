use Rattle.std.proofs.Common.{◌≡◌, ap, arith, ◌∙◌, ◌<◌}
use Rattle.cml_value.specs.Group.{choose, groups}
use Rattle.cml_value.specs.GroupHeights.{group_height, groups_height}
use Rattle.cml_scan.proofs.Heights.{member_below}
use Rattle.cml_scan.proofs.offer.+push_bases.Goals as goal

-- a member of a choice lies lower than the choice
pub push_bases-requires : goal.push_bases-requires
push_bases-requires t c =
    let below : group_height c.member-item.result < groups_height (groups c.deref-member-items.result.now) = member_below _ _ _ c.loop-member-test.true c.member-item.is in
    let of_kind = rw c.in-Choose.is at c.kind.ensures in
    let items = c.deref-member-items.ensures.value ∙ ap (λ v. v.items) c.deref.ensures in
    let whole : choose (groups c.deref-member-items.result.now) ≡ c.args.group.now = rw items of_kind in
    let height : groups_height (groups c.deref-member-items.result.now) ≡ group_height c.args.group.now = ap group_height whole in
    let start = c.decreases in
    (omega arith, tt)
