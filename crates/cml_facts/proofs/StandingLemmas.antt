-- The top call of a stack, as a walk from the top finds it.
use Rattle.std.proofs.Common.{◌≡◌, ℕ, ◌+◌, ◌<◌, subst, inl, inr, List, [], ◌∷◌, ◌++◌, length, Option, Some, None, sym, ap, ◌∙◌, arith}
use Rattle.std.specs.Option.{option_or}
use Rattle.std.specs.Prelude.{option_and_then, slice_get}
use Rattle.std.proofs.lemmas.Bool.{cases_lt}
use Rattle.std.proofs.lemmas.List.{length_push, get_or_append_left, get_or_push}
use Rattle.cml_step.specs.Machines.{PlainHeld}
use Rattle.cml_hub.specs.Courses.{PlainCourse}
use Rattle.cml_facts.specs.declared.ending.standing.Spot.{Spot}
use Rattle.cml_facts.specs.Standings.{as_call, top_call, IsSpotOf, spot_at, call_of_machine}
use Rattle.cml_facts.proofs.OrLemmas.{or_none, or_or}

-- the last entry is looked at first
pub top_call-push : (hs : List PlainHeld) (h : PlainHeld) → top_call (hs ++ h ∷ []) ≡ option_or (as_call h) (top_call hs)
top_call-push [] h = or_none (as_call h)
top_call-push (g ∷ hs) h = ap (λ x. option_or x (as_call g)) (top_call-push hs h) ∙ or_or (as_call h) (top_call hs) (as_call g)

pub is_top : (old new : List PlainHeld) (h call : PlainHeld) (top : Option PlainHeld) → old ≡ new ++ h ∷ [] → top_call old ≡ top → as_call h ≡ Some call → top ≡ Some call
is_top old new h call top split so_far is =
    sym so_far ∙ (ap top_call split ∙ (top_call-push new h ∙ ap (λ x. option_or x (top_call new)) is))

pub is_no_call : (old new : List PlainHeld) (h : PlainHeld) (top : Option PlainHeld) → old ≡ new ++ h ∷ [] → top_call old ≡ top → as_call h ≡ None → top_call new ≡ top
is_no_call old new h top split so_far is =
    sym (ap (λ x. option_or x (top_call new)) is) ∙ (sym (top_call-push new h) ∙ (sym (ap top_call split) ∙ so_far))

pub falls : (old new : List PlainHeld) (h : PlainHeld) → old ≡ new ++ h ∷ [] → length new < length old
falls old new h split = omega (arith, ap length split, length_push new h)

-- one spot more
pub spots_more : (c : PlainCourse) (spots : List (Option Spot)) (spot : Option Spot) (n : ℕ) → length spots ≡ n
    → IsSpotOf c.program (option_and_then call_of_machine (slice_get c.machines n)) spot
    → ((t : ℕ) → t < n → IsSpotOf c.program (option_and_then call_of_machine (slice_get c.machines t)) (spot_at spots t))
    → (t : ℕ) → t < n + 1 → IsSpotOf c.program (option_and_then call_of_machine (slice_get c.machines t)) (spot_at (spots ++ spot ∷ []) t)
spots_more c spots spot n many is so_far t h =
    elim (cases_lt t n) as (λ _. IsSpotOf c.program (option_and_then call_of_machine (slice_get c.machines t)) (spot_at (spots ++ spot ∷ []) t)) [
      | inl lt ↦ subst (λ s. IsSpotOf c.program (option_and_then call_of_machine (slice_get c.machines t)) s) (sym (get_or_append_left spots (spot ∷ []) None t (omega arith))) (so_far t lt)
      | inr le ↦
          let e : n ≡ t = omega arith in
          subst (λ k. IsSpotOf c.program (option_and_then call_of_machine (slice_get c.machines k)) (spot_at (spots ++ spot ∷ []) k)) e
          (subst (λ s. IsSpotOf c.program (option_and_then call_of_machine (slice_get c.machines n)) s) (sym (get_or_push spots spot None n many)) is)
    ]
