-- Ends, one place on.
use Rattle.std.proofs.Common.{◌≡◌, ℕ, ◌+◌, ◌<◌, ◌≤◌, false, List, [], ◌∷◌, ◌++◌, length, Some, slice_get, Contains, ◌⊎◌, inl, inr, ap, sym, subst, ◌∙◌, arith, true≢false}
use Rattle.std.proofs.lemmas.List.Elements.{All-push, All-weaker, Contains-append_left, Contains-push}
use Rattle.std.proofs.lemmas.Option.{same_Some}
use Rattle.std.specs.List.{All}
use Rattle.cml_hub.specs.Runs.{terminal}
use Rattle.cml_verify.specs.Places.{all_at, either_way, get_push_cases}
use Rattle.cml_verify.specs.Kept.{PlainKept}
use Rattle.cml_verify.specs.Ends.{EachEndIsAmong}

-- no place stands there twice
abbrev pub ArePlacesApart : List ℕ → Type 0
ArePlacesApart places = (i j k : ℕ) → slice_get places i ≡ Some k → slice_get places j ≡ Some k → i ≡ j

pub below_more : (places : List ℕ) (k : ℕ) → All (λ j. j < k) places → All (λ j. j < k + 1) places
below_more places k h = All-weaker (λ j. j < k) (λ j. j < k + 1) (λ j lt. omega (arith, lt)) places h

pub below_push : (places : List ℕ) (k : ℕ) → All (λ j. j < k) places → All (λ j. j < k + 1) (places ++ k ∷ [])
below_push places k h = All-push (λ j. j < k + 1) places k (below_more places k h) (omega arith)

-- a place above all others
pub apart_push : (places : List ℕ) (k : ℕ) → All (λ j. j < k) places → ArePlacesApart places → ArePlacesApart (places ++ k ∷ [])
apart_push places k below apart i j m h g = by (get_push_cases places k i m h) (get_push_cases places k j m g)
  where
    lower : (n : ℕ) → slice_get places n ≡ Some m → k ≡ m → ⊥
    lower n e is = let lt : m < k = all_at (λ (x : ℕ). x < k) places n m below e in omega (arith, lt, is)

    by : (slice_get places i ≡ Some m) ⊎ ((i ≡ length places) × (k ≡ m)) → (slice_get places j ≡ Some m) ⊎ ((j ≡ length places) × (k ≡ m)) → i ≡ j
    by (inl e) (inl f) = apart i j m e f
    by (inl e) (inr f) = absurd (lower i e f.1)
    by (inr e) (inl f) = absurd (lower j f e.1)
    by (inr e) (inr f) = e.0 ∙ sym f.0

module _ (kept : List PlainKept) (k : ℕ) (places : List ℕ) (among : EachEndIsAmong kept places k) where
  -- the place was told
  pub end_told : EachEndIsAmong kept (places ++ k ∷ []) (k + 1)
  end_told j lt end = by (either_way k j)
    where
      by : (k ≤ j) ⊎ (j < k) → Contains (places ++ k ∷ []) j
      by (inl e) = subst (Contains (places ++ k ∷ [])) (omega (arith, e, lt)) (Contains-push places k)
      by (inr e) = Contains-append_left places (k ∷ []) j (among j e end)

  -- no end is kept there
  pub no_end : (a : PlainKept) → slice_get kept k ≡ Some a → terminal a.world ≡ false → EachEndIsAmong kept places (k + 1)
  no_end a at goes j lt end = by (either_way k j)
    where
      by : (k ≤ j) ⊎ (j < k) → Contains places j
      by (inl e) =
          let is : j ≡ k = omega (arith, e, lt) in
          let same : end.one ≡ a = same_Some end.one a (sym end.at ∙ ap (slice_get kept) is ∙ at) in
          absurd (true≢false (sym end.over ∙ ap (λ (x : PlainKept). terminal x.world) same ∙ goes))
      by (inr e) = among j e end
