-- The threads of a run that has ended.
use Rattle.std.proofs.Common.{◌≡◌, ℕ, suc, ◌+◌, ◌<◌, ◌≤◌, List, [], ◌∷◌, ◌++◌, length, Option, None, inl, inr, refl, sym, ap, subst, ◌∙◌, arith}
use Rattle.std.specs.Prelude.{Vec, Result, Ok, Err, IfOk, OnOk, Some, option_map, slice_get}
use Rattle.std.specs.Option.{option_to_list}
use Rattle.std.specs.declared.alloc.Global.{Global}
use Rattle.std.proofs.lemmas.Bool.{cases_lt}
use Rattle.std.proofs.lemmas.List.{get_or_append_left, get_or_push}
use Rattle.cml_check.specs.Syntax.{PlainItem}
use Rattle.cml_step.specs.Calls.{text_of}
use Rattle.cml_step.specs.Machines.{PlainHeld}
use Rattle.cml_scan.specs.World.{PlainThread}
use Rattle.cml_hub.specs.Courses.{PlainCourse}
use Rattle.cml_hub.specs.Deeds.{origins}
use Rattle.cml_phrase.specs.declared.place.Place.{Place}
use Rattle.cml_facts.specs.declared.ending.standing.Spot.{Spot}
use Rattle.cml_facts.specs.declared.ending.takers.Takers.{Takers}
use Rattle.cml_facts.specs.Takes.{takes_of, last_taker, taker_in, KnowsTakers}
use Rattle.cml_facts.specs.Standings.{IsSpotOf, spot_at}
use Rattle.cml_facts.specs.Lefts.{stands_of}
use Rattle.cml_facts.proofs.ThreadLemmas.{IsMade}
use Rattle.cml_facts.specs.Falls.{PlainFall, AreFalls}
use Rattle.cml_explore.specs.declared.told.ThreadLeft.{ThreadLeft}
use Rattle.cml_explore.specs.declared.told.ThreadState.{ThreadState}
use Rattle.cml_explore.specs.Sights.{Sight, AreSpotsBelow, AreSpotsToTell, fault_state, state_or_fault, state_told, thread_left, thread_told, threads_told}
use Rattle.cml_explore.specs.Told.{AreThreadsTold}

-- what is told of a thread
abbrev pub of_thread : Sight → ℕ → PlainThread → List ThreadLeft
of_thread s t thread = option_to_list (thread_told s t thread)

pub threads_made : (s : Sight) → IsMade (of_thread s) (threads_told s)
threads_made s = record { none = λ i. refl; more = λ i t threads. refl }

-- one spot more
pub spot_more : (p : List (PlainItem ℕ)) (call : ℕ → Option PlainHeld) (spots : List (Option Spot)) (spot : Option Spot) (n : ℕ) → length spots ≡ n → IsSpotOf p (call n) spot
    → ((t : ℕ) → t < n → IsSpotOf p (call t) (spot_at spots t)) → (t : ℕ) → t < n + 1 → IsSpotOf p (call t) (spot_at (spots ++ spot ∷ []) t)
spot_more p call spots spot n many is so_far t h =
    elim (cases_lt t n) as (λ _. IsSpotOf p (call t) (spot_at (spots ++ spot ∷ []) t)) [
      | inl lt ↦ subst (λ s. IsSpotOf p (call t) s) (sym (get_or_append_left spots (spot ∷ []) None t (omega arith))) (so_far t lt)
      | inr le ↦
          let e : n ≡ t = omega arith in
          subst (λ k. IsSpotOf p (call k) (spot_at (spots ++ spot ∷ []) k)) e (subst (λ s. IsSpotOf p (call n) s) (sym (get_or_push spots spot None n many)) is)
    ]

-- a thread that has ended is told of as its fault is
pub not_left : {E : Type 0} (r : Result (Option ThreadState) E) (s : Sight) (i : ℕ) (threads : List PlainThread)
    → ((t : PlainThread) → slice_get threads i ≡ Some t → None ≡ stands_of s.world s.began s.taker t) → IfOk r (λ state. state ≡ fault_state s (s.falls i))
    → IfOk r (λ state. (t : PlainThread) → slice_get threads i ≡ Some t → state ≡ state_told s i t)
not_left (Ok state) s i threads none is = λ t at. is ∙ ap (state_or_fault s i) (none t at)
not_left (Err e) s i threads none is = tt

-- a thread in this state was appended
pub told_so : {T E : Type 0} (r : Result T E) (s : Sight) (i : ℕ) (threads : List PlainThread) (old new : List ThreadLeft) (state : Option ThreadState)
    → ((t : PlainThread) → slice_get threads i ≡ Some t → state ≡ state_told s i t) → OnOk r (new ≡ old ++ option_to_list (option_map (thread_left s i) state))
    → OnOk r ((t : PlainThread) → slice_get threads i ≡ Some t → new ≡ old ++ option_to_list (thread_told s i t))
told_so (Ok x) s i threads old new state is more = λ t at. more ∙ ap (λ (k : Option ThreadState). old ++ option_to_list (option_map (thread_left s i) k)) (is t at)
told_so (Err e) s i threads old new state is more = tt

same_takers : (c : PlainCourse) (takers : Takers) → KnowsTakers (text_of c.program) c.items takers → taker_in takers ≡ last_taker (takes_of (text_of c.program) c.items)
same_takers c takers knows = λ i m. knows m i

-- the sight of a run whose takers are these
abbrev seen_with : List (List Place) → PlainCourse → (ℕ → Option PlainFall) → List (Option Spot) → List (Option Spot) → (ℕ → Option ℕ) → Sight
seen_with places c falls spots below taker = record {
  places = places;
  program = c.program;
  world = c.world;
  began = origins (text_of c.program) c.items;
  taker = taker;
  falls = falls;
  spots = spots;
  below = below;
}

-- the threads of a run
pub threads_seen : {E : Type 0} (r : Result (Vec ThreadLeft Global) E) (places : List (List Place)) (c : PlainCourse)
    (takers : Takers) (falls : ℕ → Option PlainFall) (spots below : List (Option Spot))
    → KnowsTakers (text_of c.program) c.items takers → AreFalls c.program c.items falls → AreSpotsToTell c falls spots → AreSpotsBelow c falls below
    → IfOk r (λ threads. threads.items ≡ threads_told (seen_with places c falls spots below (taker_in takers)) 0 c.world.threads)
    → IfOk r (λ threads. AreThreadsTold places c threads.items)
threads_seen (Ok threads) places c takers falls spots below knows are stands stood e = record {
  falls = falls;
  are = are;
  spots = spots;
  stands = stands;
  below = below;
  stood = stood;
  threads_are = e ∙ ap (λ (taker : ℕ → Option ℕ). threads_told (seen_with places c falls spots below taker) 0 c.world.threads) (same_takers c takers knows);
}
threads_seen (Err y) places c takers falls spots below knows are stands stood e = tt
