-- Places in lists that grow at the end.
use Rattle.std.proofs.Common.{◌≡◌, ℕ, zero, suc, ◌+◌, ◌<◌, ◌≤◌, Bool, true, false, not, List, [], ◌∷◌, ◌++◌, length, map, take, get_or, None, Some, slice_get}
use Rattle.std.proofs.Common.{Contains, ◌⊎◌, inl, inr, refl, ap, sym, subst, ◌∙◌, arith, true≢false}
use Rattle.std.specs.Prelude.{if◌then◌else◌, option_map}
use Rattle.std.specs.List.{All, list_any}
use Rattle.std.proofs.lemmas.Option.{slice_get_within, get_or_from_slice_get, slice_get_read, slice_get-map, same_Some}
use Rattle.std.proofs.lemmas.Bool.Decides.{leb_tells}
use Rattle.std.proofs.lemmas.List.{take_more, map-append}
use Rattle.indexmap.specs.IndexSet.{insert_key}

-- a place in the front
pub get_front : {X : Type 0} (xs ys : List X) (k : ℕ) → k < length xs → slice_get (xs ++ ys) k ≡ slice_get xs k
get_front [] ys k h = absurd (omega arith)
get_front (x ∷ xs) ys zero h = refl
get_front (x ∷ xs) ys (suc k) h = get_front xs ys k (omega arith)

-- the place behind
pub get_end : {X : Type 0} (xs : List X) (x : X) (n : ℕ) → n ≡ length xs → slice_get (xs ++ x ∷ []) n ≡ Some x
get_end [] x zero h = refl
get_end [] x (suc n) h = absurd (omega arith)
get_end (y ∷ xs) x zero h = absurd (omega arith)
get_end (y ∷ xs) x (suc n) h = get_end xs x n (omega arith)

-- what stands in a list with one more
pub get_push_cases : {X : Type 0} (xs : List X) (x : X) (k : ℕ) (y : X) → slice_get (xs ++ x ∷ []) k ≡ Some y → (slice_get xs k ≡ Some y) ⊎ ((k ≡ length xs) × (x ≡ y))
get_push_cases [] x zero y h = inr (refl, same_Some x y h)
get_push_cases [] x (suc k) y h = absurd (none h)
  where
    none : None ≡ Some y → ⊥
    none e = cc
get_push_cases (z ∷ xs) x zero y h = inl h
get_push_cases (z ∷ xs) x (suc k) y h = elim (get_push_cases xs x k y h) [ inl e ↦ inl e | inr e ↦ inr (ap suc e.0, e.1) ]

-- what is true of all is true of what stands at a place
pub all_at : {X : Type 0} (P : X → Type 0) (xs : List X) (k : ℕ) (x : X) → All P xs → slice_get xs k ≡ Some x → P x
all_at P xs k x all h = subst P (get_or_from_slice_get xs k x x h) (all k x (slice_get_within xs k x h))

-- a key that was new, and one that was there
module _ {K : Type 0} (eq : K → K → Bool) (keys after : List K) (k : K) (new : Bool) (added : new ≡ not (list_any (eq k) keys)) (inserted : after ≡ insert_key eq keys k) where
  pub came_last : new ≡ true → after ≡ keys ++ k ∷ []
  came_last e = by (list_any (eq k) keys) refl
    where
      by : (b : Bool) → list_any (eq k) keys ≡ b → after ≡ keys ++ k ∷ []
      by true a = absurd (true≢false (sym e ∙ added ∙ ap not a))
      by false a = inserted ∙ ap (λ b. if b then keys else keys ++ k ∷ []) a

  pub was_there : new ≡ false → after ≡ keys
  was_there e = by (list_any (eq k) keys) refl
    where
      by : (b : Bool) → list_any (eq k) keys ≡ b → after ≡ keys
      by true a = inserted ∙ ap (λ b. if b then keys else keys ++ k ∷ []) a
      by false a = absurd (true≢false (sym (added ∙ ap not a) ∙ e))

-- what was read in a copy of the list
pub read_through : {X : Type 0} (xs keys : List X) (at : ℕ) (x : X) → xs ≡ keys → at < length keys → x ≡ get_or xs at x → slice_get keys at ≡ Some x
read_through xs keys at x e h r = slice_get_read keys (length keys) at x refl h (r ∙ ap (λ l. get_or l at x) e)

-- where what a list contains stands
pub place_in : {X : Type 0} (xs : List X) (x : X) (c : Contains xs x) → slice_get xs c.0 ≡ Some x
place_in xs x c = slice_get_read xs (length xs) c.0 x refl c.1 (sym c.2)

-- what is kept, as the states of which it is kept
module _ {K S : Type 0} (f : K → S) where
  pub mapped_last : (keys after : List K) (k : K) → after ≡ keys ++ k ∷ [] → map f after ≡ map f keys ++ f k ∷ []
  mapped_last keys after k e = ap (map f) e ∙ map-append f keys (k ∷ [])

  pub mapped_has : (keys : List K) (k : K) → Contains keys k → Contains (map f keys) (f k)
  mapped_has keys k c =
      let at : slice_get (map f keys) c.0 ≡ Some (f k) = slice_get-map f keys c.0 ∙ ap (option_map f) (place_in keys k c) in
      (c.0, slice_get_within (map f keys) c.0 (f k) at, get_or_from_slice_get (map f keys) c.0 (f k) (f k) at)

-- what stands at a place that is there
pub there : {X : Type 0} (xs : List X) (k : ℕ) → k < length xs → (x : X) × (slice_get xs k ≡ Some x)
there [] k h = absurd (omega (arith, h))
there (x ∷ xs) zero h = (x, refl)
there (x ∷ xs) (suc k) h = there xs k (omega (arith, h))

-- one element more of a list
pub take_one : {X : Type 0} (xs : List X) (k : ℕ) (x : X) → k < length xs → x ≡ get_or xs k x → take (k + 1) xs ≡ take k xs ++ x ∷ []
take_one xs k x lt e = take_more xs k x lt ∙ ap (λ y. take k xs ++ y ∷ []) (sym e)

pub either_way : (a b : ℕ) → (a ≤ b) ⊎ (b < a)
either_way a b = elim (leb_tells a b) [ inl e ↦ inl e.1 | inr e ↦ inr e.1 ]
