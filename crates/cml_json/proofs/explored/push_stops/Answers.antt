use Rattle.std.proofs.Common.{◌∙◌, append_assoc, append-nil}
use Rattle.std.proofs.lemmas.Result.{on_ok_weaker}
use Rattle.cml_json.specs.Explored.{stop_members}
use Rattle.cml_json.proofs.explored.push_stops.Goals as goal

pub returns : goal.returns
unfolding stop_members
returns c =
    on_ok_weaker c.push_stop.result
    (λ is. is ∙ simp (c.in_ok-extend_from_slice-2.ensures.items, c.in_ok-extend_from_slice.ensures.items, append_assoc, append-nil)
    (cc (c.in_ok-kinds.ensures, c.as_slice.ensures.value, c.as_slice-2.ensures.value)))
    c.push_stop.ensures
