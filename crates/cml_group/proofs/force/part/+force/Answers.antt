use Rattle.std.proofs.Common.{◌≡◌, ◌++◌, drop, ◌+◌, length, ap, sym, ◌∙◌, arith}
use Rattle.cml_value.specs.Group.{choose, groups}
use Rattle.cml_group.specs.Force.{event_of}
use Rattle.cml_group.specs.Frames.{in_choice}
use Rattle.cml_group.specs.FrameViews.{plain_hole, plain_part}
use Rattle.cml_group.proofs.Members.{member_low, members_next, open_choice, whole_choice}
use Rattle.cml_group.proofs.force.part.+force.Goals as goal

pub force_members-force-requires : goal.force_members-force-requires
force_members-force-requires t c =
    let vs = c.args.members.now.value.items in
    let same : c.deref-in-loop-i.result.now.items ≡ vs = ap (λ v. v.items) c.deref-in-loop-i.ensures in
    let len : length c.deref.result.now.items ≡ length vs = ap (λ v. length v.items) c.deref.ensures in
    (omega (arith, member_low _ vs c.loop-i.i c.index-member.result.now same (omega (arith, len)) c.index-member.ensures), tt)

pub force_members-returns-in-Open : goal.force_members-returns-in-Open
force_members-returns-in-Open t c =
    let vs = c.args.members.now.value.items in
    let same : c.deref-in-loop-i.result.now.items ≡ vs = ap (λ v. v.items) c.deref-in-loop-i.ensures in
    let len : length c.deref.result.now.items ≡ length vs = ap (λ v. length v.items) c.deref.ensures in
    let gained = c.in_ok-add_leaf.ensures.other c.if-branch.false in
    open_choice c.in-Open.frames.items _ c.new.result (c.args.done.now ++ c.loop-i.gained.items) (plain_hole c.in-Open.hole) c.index-member.result.now
    (drop c.loop-i.i vs) (drop (c.loop-i.i + 1) vs) _
    c.in_ok-push-in-Open.ensures.items
    (c.new.ensures ∙ ap (λ d. in_choice d (drop (c.loop-i.i + 1) c.in_ok-members-in-Open.members.value.items)) c.in_ok-done-in-Open.ensures
    ∙ ap (λ v. in_choice (c.args.done.now ++ c.add_leaf.new.gained.items) (drop (c.loop-i.i + 1) v.items)) c.in_ok-members-in-Open.ensures
    ∙ ap (λ l. in_choice (c.args.done.now ++ l) (drop (c.loop-i.i + 1) vs)) gained)
    (ap plain_part (sym c.in-Open.is) ∙ c.in_ok-group.ensures)
    (members_next _ vs c.loop-i.i c.index-member.result.now same (omega (arith, len)) c.index-member.ensures)
    c.loop-i.invariant

pub force_members-returns : goal.force_members-returns
force_members-returns t c =
    let vs = c.args.members.now.value.items in
    let len : length c.deref.result.now.items ≡ length vs = ap (λ v. length v.items) c.deref.ensures in
    ap event_of (c.in_ok-choose.ensures.ok ∙ ap (λ l. choose (groups l)) c.in_ok-all.ensures)
    ∙ whole_choice (c.args.done.now ++ c.loop-i.gained.items) vs c.loop-i.i _ (omega (arith, len)) c.loop-i.invariant
