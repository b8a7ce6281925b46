use Rattle.std.proofs.Common.{◌∙◌, List, ℕ, Option, ap, codes, map}
use Rattle.std.specs.Fmt.{decimal}
use Rattle.std.proofs.lemmas.Result.{on_ok_weaker}
use Rattle.cml_explore.specs.declared.told.ClassTold.{ClassTold}
use Rattle.cml_json.specs.Explored.{class_json, class_members}
use Rattle.cml_json.specs.Json.{array, json_string, member, optional}
use Rattle.cml_json.proofs.ListLemmas.{both, first_as, next_as}
use Rattle.cml_json.proofs.explored.push_order.Goals as goal

pub returns : goal.returns
unfolding class_members
returns c =
    let forms = c.args.forms.now in
    let properties = c.args.properties.now in
    let order = first_as (codes ",") _ _ _ _ (ap (λ (s : List ℕ). member (codes "order") (json_string s)) (c.as_bytes.ensures.value ∙ c.orders_name.ensures)) c.in_ok-push_string.ensures in
    let depth = next_as _ _ _ _ _ _ _ _ order (ap (λ (n : Option ℕ). member (codes "depth") (optional decimal n)) c.orders_depth.ensures) c.in_ok-push_optional_number.ensures in
    let same = ap (λ (cs : List ClassTold). member (codes "classes") (array (map (class_json forms properties c.as_slice-servers.result.now) cs))) c.as_slice-classes.ensures.value
    ∙ ap (λ (ss : List ℕ). member (codes "classes") (array (map (class_json forms properties ss) c.args.told.now.classes.items))) c.as_slice-servers.ensures.value in
    on_ok_weaker c.push_classes.result (λ is. (next_as _ _ _ _ _ _ _ _ depth same (both _ _ _ _ _ c.in_ok-extend_from_slice.ensures.items is)).is) c.push_classes.ensures
