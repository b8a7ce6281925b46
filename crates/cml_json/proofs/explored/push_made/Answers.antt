use Rattle.std.proofs.Common.{List, ℕ, ap, codes}
use Rattle.std.proofs.lemmas.Result.{on_ok_weaker}
use Rattle.cml_json.specs.Explored.{made_members}
use Rattle.cml_json.specs.Json.{json_string, member}
use Rattle.cml_json.proofs.ListLemmas.{first_member, next_as, next_member}
use Rattle.cml_json.proofs.explored.push_made.Goals as goal

pub returns : goal.returns
unfolding made_members
returns c =
    let command = first_member (codes "{") _ _ _ c.in_ok-push_string.ensures in
    let script = next_as _ _ _ _ _ _ _ _ command (ap (λ (s : List ℕ). member (codes "script") (json_string s)) c.as_bytes.ensures.value) c.in_ok-push_string-2.ensures in
    let asked = next_member _ _ _ _ _ _ _ script c.in_ok-push_number.ensures in
    let runs = next_member _ _ _ _ _ _ _ asked c.in_ok-push_number-2.ensures in
    let first = next_member _ _ _ _ _ _ _ runs c.in_ok-push_number-3.ensures in
    on_ok_weaker c.push_optional_number.result (λ is. (next_member _ _ _ _ _ _ _ first is).is) c.push_optional_number.ensures
