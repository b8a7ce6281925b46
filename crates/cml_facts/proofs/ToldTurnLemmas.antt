-- What is told of a turn, part for part.
use Rattle.std.proofs.Common.{◌≡◌, ℕ, ◌+◌, ◌-◌, ltb, Bool, true, false, List, [], ◌∷◌, ◌++◌, length, Option, Some, refl, sym, ap, subst, ◌∙◌}
use Rattle.std.specs.Prelude.{slice_get, option_map, option_and_then, if◌then◌else◌}
use Rattle.std.proofs.lemmas.Option.{slice_get-map}
use Rattle.cml_check.specs.Syntax.{PlainItem}
use Rattle.cml_step.specs.Asks.{PlainAsk}
use Rattle.cml_step.specs.AskViews.{plain_ask}
use Rattle.cml_step.specs.Calls.{text_of}
use Rattle.cml_step.specs.Machines.{PlainMachine, machine_term}
use Rattle.cml_step.specs.Slices.{sliced, sliced_from}
use Rattle.cml_value.specs.declared.number.Tid.{Tid}
use Rattle.cml_schedule.specs.declared.item.Item.TheVariants.{Turn}
use Rattle.cml_hub.specs.Performed.{fails}
use Rattle.cml_hub.specs.Runs.{output_of, stands}
use Rattle.cml_hub.specs.Courses.{PlainCourse, run_of, Adds}
use Rattle.cml_hub.specs.Deeds.{deed, fault_count}
use Rattle.cml_phrase.specs.declared.place.Place.{Place}
use Rattle.cml_facts.specs.declared.ending.standing.Spot.{Spot}
use Rattle.cml_facts.specs.Standings.{IsSpotOf, call_of_machine, spot_place}
use Rattle.cml_facts.specs.Takes.{taker_in}
use Rattle.cml_facts.specs.Waits.{who_is, awaited_of}
use Rattle.cml_facts.specs.declared.narrative.deed.Came.{Came}
use Rattle.cml_facts.specs.declared.narrative.deed.Deed.TheVariants as did
use Rattle.cml_facts.specs.declared.narrative.deed.Happened.{Happened}
use Rattle.cml_facts.specs.declared.narrative.deed.Turned.{Turned}
use Rattle.cml_facts.specs.declared.narrative.narrator.Narrator.{Narrator}
use Rattle.cml_facts.specs.declared.narrative.plan.Planned.{Planned}
use Rattle.cml_facts.specs.Deeds.{HasHappened, IsDeed, newly}
use Rattle.cml_facts.specs.Narrators.{Knows, StandsAsking}
use Rattle.cml_facts.specs.Turns.{began_in, waits_on, is_fault_ask, number_asked, AsksNext, IsOutcome, EndsAtFault, WentOn, IsTurned, Plans}
use Rattle.cml_facts.proofs.ToldFaultLemmas.{came_is, faults_on, printed_on, fault_of}

-- where a thread stands as it asks
pub fault_stands : (p : List (PlainItem ℕ)) (start : PlainMachine) (a : PlainAsk) (end m : PlainMachine) (steps : ℕ) (spot : Option Spot) → is_fault_ask a ≡ true →
    machine_term p m ≡ (sliced_from (text_of p) start.thread (steps - 1) 0 (machine_term p start)).end → IsSpotOf p (call_of_machine m) spot → StandsAsking p start a end steps spot
fault_stands p start a end m steps spot is term stands =
    (m, term ∙ ap (λ t. if t then (sliced_from (text_of p) start.thread (steps - 1) 0 (machine_term p start)).end else machine_term p end) (sym is), stands)

pub end_stands : (p : List (PlainItem ℕ)) (start : PlainMachine) (a : PlainAsk) (end : PlainMachine) (steps : ℕ) (spot : Option Spot) → is_fault_ask a ≡ false →
    IsSpotOf p (call_of_machine end) spot → StandsAsking p start a end steps spot
end_stands p start a end steps spot is stands =
    (end, ap (λ t. if t then (sliced_from (text_of p) start.thread (steps - 1) 0 (machine_term p start)).end else machine_term p end) (sym is), stands)

-- what a thread is about to do
pub planned_is : (c : PlainCourse) (t : ℕ) (start end : PlainMachine) (steps : ℕ) (plan : Planned) →
    slice_get c.machines t ≡ Some start → start.thread ≡ t →
    sliced (text_of c.program) start.thread (machine_term c.program start) ≡ record { ask = plain_ask plan.ask; end = machine_term c.program end; steps = steps } →
    StandsAsking c.program start (plain_ask plan.ask) end steps plan.spot → plan.number ≡ number_asked c.world (plain_ask plan.ask) → Plans c t plan
planned_is c t start end steps plan at own slice stands number = record {
  machine = stands.0;
  asks = record {
    start = machine_term c.program start;
    end = machine_term c.program end;
    steps = steps;
    runs = slice_get-map (machine_term c.program) c.machines t ∙ ap (option_map (machine_term c.program)) at;
    slice = rw own at slice;
    stands = rw own at stands.1;
  };
  stands = stands.2;
  number = number;
}

-- what came of the ask of a turn that came
pub came_told : (old new : PlainCourse) (t : Tid) (n : Narrator) (number : ℕ) (came : Came) (faults more printed : ℕ) (failed : Bool) →
    stands (text_of old.program) old.items ≡ Some (run_of old) → Adds old (Turn t) new → Knows new n →
    faults ≡ fault_count (text_of old.program) old.items → more ≡ fault_count (text_of new.program) new.items → failed ≡ ltb faults more → length old.output ≡ printed →
    (failed ≡ false → WentOn (option_map (awaited_of new.world (began_in new) (taker_in n.takers)) (waits_on new.world t.0)) number came) →
    (failed ≡ true → (before name : List ℕ) → length before ≡ printed → new.output ≡ before ++ output_of t.0 (fails name) → EndsAtFault name came) →
    IsOutcome old t.0 new number came
came_told old new t n number came faults more printed failed leads adds knows was are is len went fault =
    let p = text_of old.program in
    let d = deed p (run_of old) (Turn t) in
    let counted = faults_on p old.items (Turn t) (run_of old) leads in
    let on : fault_count (text_of new.program) new.items ≡ fault_count p (old.items ++ Turn t ∷ []) = rw (adds.program, adds.items) refl in
    record {
      taker = taker_in n.takers;
      takers = knows;
      is = came_is came (option_map (awaited_of new.world (began_in new) (taker_in n.takers)) (waits_on new.world t.0)) number d t.0 faults more printed old.output new.output failed is
          (are ∙ on ∙ counted ∙ ap (λ k. k + fault_of d) (sym was)) len (printed_on p (run_of old) (run_of new) t adds.run) went fault;
    }

-- a turn as a value
turn_is : (places : List (List Place)) (old new : PlainCourse) (t : ℕ) (plan : Planned) (x : Turned) (came : Came) → Plans old t plan →
    x.thread ≡ who_is (began_in new) t → x.place ≡ option_and_then (spot_place places) plan.spot → (x.ask ≡ plan.ask) × (x.came ≡ came) →
    IsOutcome old t new plan.number came → IsTurned places old t new x
turn_is places old new t plan x came plans thread place asked comes =
    let numbered = subst (λ (n : ℕ). IsOutcome old t new n came) (plans.number ∙ ap (λ a. number_asked old.world (plain_ask a)) (sym asked.0)) comes in
    record {
      thread = thread;
      machine = plans.machine;
      asks = subst (λ a. AsksNext old t (plain_ask a) plans.machine) (sym asked.0) plans.asks;
      spot = plan.spot;
      stands = plans.stands;
      place = place;
      came = subst (λ (k : Came). IsOutcome old t new (number_asked old.world (plain_ask x.ask)) k) (sym asked.1) numbered;
    }

pub turn_told : (places : List (List Place)) (old new : PlainCourse) (t : Tid) (plan : Planned) (x : Turned) (came : Came) (h : Happened) → Plans old t.0 plan →
    x.thread ≡ who_is (began_in new) t.0 → x.place ≡ option_and_then (spot_place places) plan.spot → (x.ask ≡ plan.ask) × (x.came ≡ came) →
    IsOutcome old t.0 new plan.number came → h.number ≡ length new.items → h.could ≡ newly old.world new.world → h.deed ≡ did.Turned x → HasHappened places old (Turn t) new h
turn_told places old new t plan x came h plans thread place asked comes number could is = record {
  number = number;
  could = could;
  did = subst (λ d. IsDeed places old (Turn t) new d) (sym is) (turn_is places old new t.0 plan x came plans thread place asked comes);
}
