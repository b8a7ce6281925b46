-- The ends among the states, one place on.
use Rattle.std.proofs.Common.{◌≡◌, ℕ, ◌<◌, ◌+◌, List, [], ◌∷◌, ◌++◌, length, Option, None, Some, Contains, slice_get, refl, sym, subst, ◌∙◌, arith, below_more}
use Rattle.std.specs.Prelude.{IfSome}
use Rattle.std.specs.List.{All}
use Rattle.std.proofs.lemmas.List.Elements.{All-push, Contains-append_left, Contains-push}
use Rattle.std.proofs.lemmas.Option.{IfSome_then, slice_get_within}
use Rattle.cml_verify.specs.Systems.{System, IsTerminal, LeadsTo, run}

for_each : {X : Type 0} {P : X → Type 0} (o : Option X) → ((x : X) → P x) → IfSome o P
for_each None f = tt
for_each (Some x) f = f x

module _ {S I : Type 0} (y : System S I) (states : List S) where
  -- these places are of ends
  abbrev pub EachEnds : List ℕ → Type 0
  EachEnds ends = All (λ j. IfSome (slice_get states j) (IsTerminal y)) ends

  -- the ends before a place are among these
  abbrev pub AllListed : List ℕ → ℕ → Type 0
  AllListed ends k = (j : ℕ) → j < k → IfSome (slice_get states j) (λ u. IsTerminal y u → Contains ends j)

  pub each_more : (ends after : List ℕ) (k : ℕ) (s : S) → slice_get states k ≡ Some s → IsTerminal y s → after ≡ ends ++ k ∷ [] → EachEnds ends → EachEnds after
  each_more ends after k s stands stop e each =
      let At : Option S → Type 0 = λ o. IfSome o (IsTerminal y) in
      subst EachEnds (sym e) (All-push (λ j. IfSome (slice_get states j) (IsTerminal y)) ends k each (subst At (sym stands) stop))

  pub all_more : (ends after : List ℕ) (k : ℕ) → after ≡ ends ++ k ∷ [] → AllListed ends k → AllListed after (k + 1)
  all_more ends after k e all =
      subst (λ l. AllListed l (k + 1)) (sym e)
      (below_more (λ j. IfSome (slice_get states j) (λ u. IsTerminal y u → Contains (ends ++ k ∷ []) j)) k
      (λ j h. IfSome_then (slice_get states j) (all j h) (λ u f t. Contains-append_left ends (k ∷ []) j (f t)))
      (for_each (slice_get states k) (λ u t. Contains-push ends k)))

  pub all_but : (ends : List ℕ) (k : ℕ) (s : S) → slice_get states k ≡ Some s → (IsTerminal y s → ⊥) → AllListed ends k → AllListed ends (k + 1)
  all_but ends k s stands goes_on all =
      let At : Option S → Type 0 = λ o. IfSome o (λ u. IsTerminal y u → Contains ends k) in
      below_more (λ j. IfSome (slice_get states j) (λ u. IsTerminal y u → Contains ends j)) k all (subst At (sym stands) (λ t. absurd (goes_on t)))

  pub all_listed : (ends : List ℕ) (n : ℕ) → length states ≡ n → AllListed ends n → (j : ℕ) → IfSome (slice_get states j) (λ u. IsTerminal y u → Contains ends j)
  all_listed ends n e all j = by (slice_get states j) refl
    where
      by : (o : Option S) → slice_get states j ≡ o → IfSome o (λ u. IsTerminal y u → Contains ends j)
      by None h = tt
      by (Some s) h =
          let At : Option S → Type 0 = λ o. IfSome o (λ u. IsTerminal y u → Contains ends j) in
          let in' : j < length states = slice_get_within states j s h in
          let below : j < n = omega arith in
          subst At h (all j below)

  -- where nothing is allowed the state at a place is an end; where something is, it is none
  module _ (place : ℕ) (schedule items : List I) (leads : run y y.start schedule ≡ slice_get states place) (lists : LeadsTo y schedule (λ s. items ≡ y.allowed s)) where
    stands : slice_get states place ≡ Some lists.0
    stands = sym leads ∙ lists.1

    pub is_end_at : items ≡ [] → IfSome (slice_get states place) (IsTerminal y)
    is_end_at e = let At : Option S → Type 0 = λ o. IfSome o (IsTerminal y) in subst At (sym stands) (sym lists.2 ∙ e)

    pub no_end_at : (items ≡ [] → ⊥) → IfSome (slice_get states place) (λ s. IsTerminal y s → ⊥)
    no_end_at n = let At : Option S → Type 0 = λ o. IfSome o (λ s. IsTerminal y s → ⊥) in subst At (sym stands) (λ t. n (lists.2 ∙ t))
