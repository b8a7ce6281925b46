use Rattle.std.proofs.Common.{◌∙◌, List, ℕ, Option, ap, codes}
use Rattle.std.specs.Fmt.{decimal}
use Rattle.cml_json.specs.Json.{json_string, member, optional}
use Rattle.cml_json.specs.Named.{part_name, part_other, part_value, reason_part}
use Rattle.cml_json.specs.Runs.{part_members, reason_json, value_json}
use Rattle.cml_json.proofs.ListLemmas.{closed, first_as, next_as, three_members}
use Rattle.cml_json.proofs.fault.push_own_reason.Goals as goal

pub returns : goal.returns
unfolding reason_json part_members
returns c =
    let part = reason_part c.args.reason.now in
    let name = first_as (codes "{") _ _ _ _ (ap (λ (s : List ℕ). member (codes "name") (json_string s)) (c.as_bytes.ensures.value ∙ c.reason_name.ensures)) c.in_ok-push_string.ensures in
    let given = three_members _ _ _ _ _ _ (member (codes "operation") (optional json_string (part_name part)))
    (member (codes "value") (optional value_json (part_value part))) (member (codes "other") (optional value_json (part_other part))) name c.in_ok-push_part_of.ensures in
    let object = next_as _ _ _ _ _ _ _ _ given (ap (λ (o : Option (List ℕ)). member (codes "object") (optional json_string o)) c.reason_object.ensures) c.in_ok-push_optional_string.ensures in
    let number = next_as _ _ _ _ _ _ _ _ object (ap (λ (n : Option ℕ). member (codes "number") (optional decimal n)) c.reason_number.ensures) c.in_ok-push_optional_number.ensures in
    closed _ _ _ _ number c.in_ok-extend_from_slice.ensures.items
