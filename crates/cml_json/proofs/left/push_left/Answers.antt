use Rattle.std.proofs.Common.{◌∙◌, List, ℕ, Bool, Option, ap, codes}
use Rattle.cml_facts.specs.Waits.{PlainAwaited}
use Rattle.cml_facts.specs.declared.fault.reason.Reason.{Reason}
use Rattle.cml_json.specs.Json.{json_string, member, optional, truth}
use Rattle.cml_json.specs.Runs.{awaited_json, left_json, reason_json}
use Rattle.cml_json.proofs.ListLemmas.{closed, first_member, next_as, next_member}
use Rattle.cml_json.proofs.left.push_left.Goals as goal

pub returns : goal.returns
unfolding left_json
returns c =
    let thread = first_member (codes "{") _ _ _ c.in_ok-push_named.ensures in
    let place = next_member _ _ _ _ _ _ _ thread c.in_ok-push_place.ensures in
    let state = next_as _ _ _ _ _ _ _ _ place (ap (λ (s : List ℕ). member (codes "state") (json_string s)) (c.as_bytes.ensures.value ∙ c.left_name.ensures)) c.in_ok-push_string.ensures in
    let waits = next_as _ _ _ _ _ _ _ _ state
    (ap (λ (a : Option PlainAwaited). member (codes "waits_for") (optional (awaited_json c.args.forms.now) a)) c.waits_for.ensures) c.in_ok-push_awaited.ensures in
    let fault = next_as _ _ _ _ _ _ _ _ waits (ap (λ (r : Option Reason). member (codes "fault") (optional reason_json r)) c.fault_left.ensures) c.in_ok-push_reason.ensures in
    let may = next_as _ _ _ _ _ _ _ _ fault (ap (λ (b : Bool). member (codes "may_wait") (truth b)) c.may_wait.ensures) c.in_ok-push_truth.ensures in
    closed _ _ _ _ may c.in_ok-extend_from_slice.ensures.items
