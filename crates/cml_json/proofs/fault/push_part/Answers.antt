use Rattle.std.proofs.Common.{◌++◌, List, ℕ, Option, ap, codes}
use Rattle.std.proofs.lemmas.Result.{on_ok_weaker}
use Rattle.cml_value.specs.Value.{PlainValue}
use Rattle.cml_json.specs.Json.{json_string, member, optional}
use Rattle.cml_json.specs.Runs.{part_members, value_json}
use Rattle.cml_json.proofs.ListLemmas.{three_pieces}
use Rattle.cml_json.proofs.fault.push_part.Goals as goal

pub returns : goal.returns
unfolding part_members
returns c =
    on_ok_weaker c.push_optional_value-2.result
    (three_pieces _ _ _ _ _ _ _ _ _ _ (ap (λ (o : Option (List ℕ)). codes "," ++ member (codes "operation") (optional json_string o)) c.part_name.ensures)
    (ap (λ (v : Option PlainValue). codes "," ++ member (codes "value") (optional value_json v)) c.part_value.ensures)
    (ap (λ (v : Option PlainValue). codes "," ++ member (codes "other") (optional value_json v)) c.part_other.ensures) c.in_ok-push_optional_string.ensures
    c.in_ok-push_optional_value.ensures)
    c.push_optional_value-2.ensures
