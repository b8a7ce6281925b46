use Rattle.std.proofs.Common.{◌∙◌, ◌∷◌, [], List, ℕ, Option, ap, codes, map}
use Rattle.std.specs.Prelude.{is_none}
use Rattle.std.specs.Fmt.{decimal}
use Rattle.cml_json.specs.Json.{array, json_string, member, optional, truth}
use Rattle.cml_json.specs.Verdicts.{ends_json, fault_json, found_members, search_members, verify_json}
use Rattle.cml_json.proofs.ListLemmas.{Behind, line_closed, more_members, next_as}
use Rattle.cml_json.proofs.verdict.verify_json.Goals as goal

pub returns : goal.returns
unfolding verify_json search_members found_members
returns c =
    let v = c.args.found.now in
    let forms = v.forms.now in
    let servers = v.servers.now in
    let search : Behind (codes "{") c.new-text.result.items c.push_search.new.text.items (member (codes "command") (json_string (codes "verify"))
    ∷ member (codes "script") (json_string v.name.now) ∷ member (codes "states") (decimal v.states) ∷ member (codes "whole") (truth (is_none v.reach))
    ∷ member (codes "items") (optional decimal v.reach) ∷ []) = record { is = c.in_ok-push_search.ensures } in
    let found = more_members _ _ _ _ _ _ (member (codes "ends") (ends_json forms servers v.ends.now)) (member (codes "faults") (array (map (fault_json forms servers) v.faults.now)) ∷ [])
    search c.in_ok-push_found.ensures in
    let unending = next_as _ _ _ _ _ _ _ _ found (ap (λ (n : Option ℕ). member (codes "unending") (optional decimal n)) c.wide.ensures) c.in_ok-push_optional_number.ensures in
    let verdict = next_as _ _ _ _ _ _ _ _ unending
    (ap (λ (s : List ℕ). member (codes "verdict") (json_string s)) (c.as_bytes.ensures.value ∙ c.verdict_name-verdict.ensures)) c.in_ok-push_string.ensures in
    line_closed _ _ _ _ c.new-text.ensures.items verdict c.in_ok-extend_from_slice.ensures.items
