use Rattle.std.proofs.Common.{◌≤◌, ◌<◌, sym, ◌∙◌, arith}
use Rattle.cml_text.specs.Forms.{nesting, nesting_of, plain_forms}
use Rattle.cml_trace.specs.GroupForms.{group_from}
use Rattle.cml_trace.proofs.GivenLemmas.{onto-next}
use Rattle.cml_trace.proofs.FormLemmas.{member_below}
use Rattle.cml_trace.proofs.group.+group_from.Goals as goal

-- a member lies lower than the form
pub group_from-requires : goal.group_from-requires
group_from-requires t c =
    let below : nesting c.member-item.result ≤ nesting_of (plain_forms c.in-Some.behind.now) =
    member_below c.in-Some.behind.now c.loop-member.member-index c.member-item.result c.loop-member-test.true c.member-item.is in
    let lower : nesting_of (plain_forms c.in-Some.behind.now) < nesting c.args.form.now = c.in-Some.ensures.lower in
    let start = c.decreases in
    (omega arith, tt)

pub loop-member-preserved : goal.loop-member-preserved
loop-member-preserved t c =
    rw c.in_ok-push-in-Choose.ensures.items (onto-next group_from c.in-Some.behind.now c.loop-member.member-index c.member-item.result c.loop-member.members.items c.in-Some-2.group _
    c.loop-member-test.true c.member-item.is (sym c.in_ok-group-in-Choose.ensures ∙ c.in-Some-2.is) c.loop-member.invariant)
