use Rattle.std.proofs.Common.{◌∙◌, List, ℕ, ap, codes, map}
use Rattle.std.specs.Fmt.{decimal}
use Rattle.cml_explore.specs.declared.told.ThreadLeft.{ThreadLeft}
use Rattle.cml_json.specs.Json.{array, json_string, member}
use Rattle.cml_json.specs.Runs.{count_members, left_json, run_json}
use Rattle.cml_json.proofs.ListLemmas.{both, closed, first_as, next_as, three_members}
use Rattle.cml_json.proofs.run.push_run.Goals as goal

pub returns : goal.returns
unfolding run_json count_members
returns c =
    let run = c.args.run.now in
    let end = first_as (codes "{") _ _ _ _ (ap (λ (s : List ℕ). member (codes "end") (json_string s)) (c.as_bytes.ensures.value ∙ c.ending_name.ensures)) c.in_ok-push_string.ensures in
    let counts = three_members _ _ _ _ _ _ (member (codes "waits") (decimal run.waits)) (member (codes "runs") (decimal run.runs)) (member (codes "faults") (decimal run.faults)) end
    c.in_ok-push_counts.ensures in
    let threads = next_as _ _ _ _ _ _ _ _ counts
    (ap (λ (ts : List ThreadLeft). member (codes "threads") (array (map (left_json c.args.forms.now c.args.servers.now) ts))) c.as_slice.ensures.value)
    (both _ _ _ _ _ c.in_ok-extend_from_slice-2.ensures.items c.in_ok-push_threads.ensures) in
    both _ _ _ _ _ c.in_ok-extend_from_slice.ensures.items (closed _ _ _ _ threads c.in_ok-extend_from_slice-3.ensures.items)
