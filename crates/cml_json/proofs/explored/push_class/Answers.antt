use Rattle.std.proofs.Common.{◌∷◌, [], List, ap, codes, map}
use Rattle.std.specs.Fmt.{decimal}
use Rattle.cml_explore.specs.declared.told.BreakTold.{BreakTold}
use Rattle.cml_json.specs.Explored.{break_json, class_json, first_members, order_depth, order_name, size_members}
use Rattle.cml_json.specs.Json.{array, json_string, member, optional, truth}
use Rattle.cml_json.proofs.ListLemmas.{Behind, both, closed, more_members, next_as, next_member}
use Rattle.cml_json.proofs.explored.push_class.Goals as goal

pub returns : goal.returns
unfolding class_json size_members first_members
returns c =
    let one = c.args.class.now in
    let size : Behind (codes "{") c.args.text.now.items c.push_size.new.text.items (member (codes "good") (truth one.well) ∷ member (codes "runs") (decimal one.runs)
    ∷ member (codes "outputs") (decimal one.outputs) ∷ []) = record { is = c.in_ok-push_size.ensures } in
    let first = more_members _ _ _ _ _ _ (member (codes "seed") (decimal one.first)) (member (codes "order") (json_string (order_name one.order))
    ∷ member (codes "depth") (optional decimal (order_depth one.order)) ∷ member (codes "items") (decimal one.items) ∷ []) size c.in_ok-push_first.ensures in
    let breaks = next_as _ _ _ _ _ _ _ _ first
    (ap (λ (bs : List BreakTold). member (codes "breaks") (array (map (break_json c.args.forms.now c.args.properties.now) bs))) c.as_slice.ensures.value)
    (both _ _ _ _ _ c.in_ok-extend_from_slice.ensures.items c.in_ok-push_breaks.ensures) in
    closed _ _ _ _ (next_member _ _ _ _ _ _ _ breaks c.in_ok-push_run.ensures) c.in_ok-extend_from_slice-2.ensures.items
