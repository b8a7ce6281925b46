use Rattle.std.proofs.Common.{◌∙◌, ◌∷◌, [], List, ℕ, ap, codes, map, not}
use Rattle.std.specs.Fmt.{decimal}
use Rattle.std.specs.List.{list_any}
use Rattle.cml_explore.specs.declared.told.ClassTold.{ClassTold}
use Rattle.cml_json.specs.Explored.{class_json, class_members, explore_json, made_members, orders_depth, orders_name, stop_json, stop_members, until_json, verdict_word}
use Rattle.cml_json.specs.Json.{array, json_string, member, optional}
use Rattle.cml_json.proofs.ListLemmas.{Behind, line_closed, more_members, next_as}
use Rattle.cml_json.proofs.explored.explore_json.Goals as goal

pub returns : goal.returns
unfolding explore_json made_members class_members stop_members
returns c =
    let told = c.args.told.now in
    let made : Behind (codes "{") c.new-text.result.items c.push_made.new.text.items (member (codes "command") (json_string (codes "explore"))
    ∷ member (codes "script") (json_string c.args.name.now) ∷ member (codes "asked") (decimal told.asked) ∷ member (codes "runs") (decimal told.runs)
    ∷ member (codes "first_seed") (decimal told.first) ∷ member (codes "last_seed") (optional decimal told.last) ∷ []) = record { is = c.in_ok-push_made.ensures } in
    let classes = more_members _ _ _ _ _ _ (member (codes "order") (json_string (orders_name told.orders))) (member (codes "depth") (optional decimal (orders_depth told.orders))
    ∷ member (codes "classes") (array (map (class_json c.args.forms.now c.args.properties.now told.servers.items) told.classes.items)) ∷ []) made c.in_ok-push_order.ensures in
    let stops = more_members _ _ _ _ _ _ (member (codes "until") (array (map until_json told.until.items))) (member (codes "stopped") (optional stop_json told.stop) ∷ []) classes
    c.in_ok-push_stops.ensures in
    let word = c.as_bytes.ensures.value ∙ (c.verdict_word-verdict.ensures ∙ (ap verdict_word c.some_bad.ensures
    ∙ ap (λ (cs : List ClassTold). verdict_word (list_any (λ one. not one.well) cs)) c.as_slice.ensures.value)) in
    let verdict = next_as _ _ _ _ _ _ _ _ stops (ap (λ (s : List ℕ). member (codes "verdict") (json_string s)) word) c.in_ok-push_string.ensures in
    line_closed _ _ _ _ c.new-text.ensures.items verdict c.in_ok-extend_from_slice.ensures.items
