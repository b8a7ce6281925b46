use Rattle.std.proofs.Common.{◌∙◌, ◌-◌, ap, map, length}
use Rattle.std.specs.Prelude.{slice_get}
use Rattle.cml_facts.specs.Takes.{taker_in}
use Rattle.cml_facts.specs.Ends.{taker_of}
use Rattle.cml_facts.proofs.SameLemmas.{are_left_by, same_told}
use Rattle.cml_facts.proofs.ending.ending.ending_of.Goals as goal

pub returns : goal.returns
returns c =
    let h = c.args.hub.now.course in
    let same = c.in_ok-takers.ensures in
    record {
      end = c.end.ensures;
      budget = c.budget.ensures.budget;
      items = ap length c.schedule-items.ensures.items;
      last = c.last_of.ensures ∙ ap (λ xs. slice_get xs (length xs - 1)) c.schedule-items.ensures.items;
      waits = c.pending.ensures;
      runs = c.run_count.ensures;
      left = are_left_by (map (λ own. own.items) c.args.places.now) h (taker_in c.in_ok-takers.takers) _ same c.in_ok-left.ensures;
      ring = c.in_ok-ring.ensures ∙ same_told h.world (taker_in c.in_ok-takers.takers) (taker_of h) same;
      faults = c.faults.ensures;
    }
