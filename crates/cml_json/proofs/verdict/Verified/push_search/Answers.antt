use Rattle.std.proofs.Common.{List, ℕ, Bool, Option, ap, codes}
use Rattle.std.specs.Fmt.{decimal}
use Rattle.std.proofs.lemmas.Result.{on_ok_weaker}
use Rattle.cml_json.specs.Json.{json_string, member, optional, truth}
use Rattle.cml_json.specs.Verdicts.{search_members}
use Rattle.cml_json.proofs.ListLemmas.{first_member, next_as, next_member, none_is}
use Rattle.cml_json.proofs.verdict.Verified.push_search.Goals as goal

pub returns : goal.returns
unfolding search_members
returns c =
    let command = first_member (codes "{") _ _ _ c.in_ok-push_string.ensures in
    let script = next_as _ _ _ _ _ _ _ _ command (ap (λ (s : List ℕ). member (codes "script") (json_string s)) c.as_bytes.ensures.value) c.in_ok-push_string-2.ensures in
    let states = next_member _ _ _ _ _ _ _ script c.in_ok-push_number.ensures in
    let whole = next_as _ _ _ _ _ _ _ _ states (ap (λ (b : Bool). member (codes "whole") (truth b)) (none_is _ _ c.is_none.ensures)) c.in_ok-push_truth.ensures in
    on_ok_weaker c.push_optional_number.result
    (λ is. (next_as _ _ _ _ _ _ _ _ whole (ap (λ (n : Option ℕ). member (codes "items") (optional decimal n)) c.wide.ensures) is).is) c.push_optional_number.ensures
