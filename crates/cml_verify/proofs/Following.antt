-- A search, one state on.
use Rattle.std.proofs.Common.{◌≡◌, ℕ, ◌+◌, ◌<◌, ◌≤◌, List, [], ◌∷◌, ◌++◌, length, Option, Some, slice_get, Contains, ◌⊎◌, inl, inr, ap, sym, subst, ◌∙◌, arith, length-append}
use Rattle.std.specs.Prelude.{IfSome, option_and_then}
use Rattle.std.proofs.lemmas.List.Elements.{All-push}
use Rattle.std.proofs.lemmas.Option.{slice_get_within}
use Rattle.cml_verify.specs.Systems.{System, IsReached, LeadsInto}
use Rattle.cml_verify.specs.Searches.{IsTrail, Keeps}
use Rattle.cml_verify.proofs.Runs.{reached_next}
use Rattle.cml_verify.specs.Places.{get_front, get_end, get_push_cases, all_at}

module _ {S I : Type 0} (y : System S I) (states : List S) (origins : List (ℕ × I)) (at : ℕ) (i : I) (s next : S)
    (stands : slice_get states at ≡ Some s) (steps : y.step s i ≡ Some next) where
  within : at < length states
  within = slice_get_within states at s stands

  trail_on : IsTrail y states origins → IsTrail y (states ++ next ∷ []) (origins ++ (at, i) ∷ [])
  trail_on t =
      let lengths : length states ≡ length origins + 1 = t.lengths in
      let inside : at < length states = within in
      record {
        start = get_front states (next ∷ []) 0 (omega arith) ∙ t.start;
        lengths = omega (arith, length-append states (next ∷ []), length-append origins ((at, i) ∷ []));
        before = λ k o h. old_before k o (get_push_cases origins (at, i) k o h);
        came = λ k o h. old_came k o (get_push_cases origins (at, i) k o h);
      }
    where
      old_before : (k : ℕ) (o : ℕ × I) → (slice_get origins k ≡ Some o) ⊎ ((k ≡ length origins) × ((at, i) ≡ o)) → o.0 ≤ k
      old_before k o (inl h) = t.before k o h
      old_before k o (inr h) =
          let e : at ≡ o.0 = ap (λ p. p.0) h.1 in
          omega (arith, e, h.0, t.lengths, within)

      old_came : (k : ℕ) (o : ℕ × I) → (slice_get origins k ≡ Some o) ⊎ ((k ≡ length origins) × ((at, i) ≡ o))
          → option_and_then (λ u. y.step u o.1) (slice_get (states ++ next ∷ []) o.0) ≡ slice_get (states ++ next ∷ []) (k + 1)
      old_came k o (inl h) =
          let inside : k < length origins = slice_get_within origins k o h in
          let parent : o.0 < length states = omega (arith, t.before k o h, t.lengths) in
          let child : k + 1 < length states = omega (arith, t.lengths) in
          ap (λ p. option_and_then (λ u. y.step u o.1) p) (get_front states (next ∷ []) o.0 parent) ∙ (t.came k o h ∙ sym (get_front states (next ∷ []) (k + 1) child))
      old_came k o (inr h) =
          let Came : ℕ × I → Type 0 = λ p. option_and_then (λ u. y.step u p.1) (slice_get (states ++ next ∷ []) p.0) ≡ slice_get (states ++ next ∷ []) (k + 1) in
          let last : k + 1 ≡ length states = omega (arith, h.0, t.lengths) in
          subst Came h.1
          (ap (λ p. option_and_then (λ u. y.step u i) p) (get_front states (next ∷ []) at within ∙ stands) ∙ (steps ∙ sym (get_end states next (k + 1) last)))

  keeps_on : Keeps y states origins → Keeps y (states ++ next ∷ []) (origins ++ (at, i) ∷ [])
  keeps_on k = record {
    trail = trail_on k.trail;
    reached = All-push (IsReached y) states next k.reached (reached_next y s i next (all_at (IsReached y) states at s k.reached stands) steps);
  }

  -- the state was new
  pub keeps_new : (after : List S) (from : List (ℕ × I)) → after ≡ states ++ next ∷ [] → from ≡ origins ++ (at, i) ∷ [] → Keeps y states origins → Keeps y after from
  keeps_new after from e f k = subst (λ l. Keeps y l from) (sym e) (subst (λ l. Keeps y (states ++ next ∷ []) l) (sym f) (keeps_on k))

  -- the item leads into the states after it
  pub leads_on : (after : List S) → Contains after next → LeadsInto y after s i
  leads_on after has = let Next : Option S → Type 0 = λ o. IfSome o (Contains after) in subst Next (sym steps) has
