-- Lists that are read place by place.
use Rattle.std.proofs.Common.{◌≡◌, ℕ, zero, suc, ◌+◌, ◌<◌, Bool, true, false, ◌||◌, List, [], ◌∷◌, ◌++◌, length, map, take, drop, get_or, Option, None, Some, slice_get}
use Rattle.std.proofs.Common.{refl, ap, sym, ◌∙◌, ◌↔◌, drop-cons, append_assoc, arith, true≢false}
use Rattle.std.specs.Prelude.{option_map}
use Rattle.std.specs.List.{list_any, range_with_len}
use Rattle.std.specs.Option.{option_map_or}
use Rattle.std.proofs.lemmas.List.{take_more, map-append}
use Rattle.std.proofs.lemmas.List.Folds.{list_any_more}
use Rattle.std.proofs.lemmas.List.FromFn.{get_or-range_with_len, length-range_with_len, length-map-range_with_len}
use Rattle.std.proofs.lemmas.Option.{slice_get_within, get_or_from_slice_get, slice_get_read, slice_get-map}
use Rattle.cml_value.specs.Value.{PlainValue}
use Rattle.cml_scan.specs.World.{PlainWorld}
use Rattle.cml_schedule.specs.declared.item.Item.TheVariants.{Turn}
use Rattle.cml_book.specs.Commit.{held_in}
use Rattle.cml_verify.specs.Places.{there}
use Rattle.cml_verify.specs.Cores.{turns}

pub taken_next : {X : Type 0} (xs : List X) (k : ℕ) (x : X) → slice_get xs k ≡ Some x → take (k + 1) xs ≡ take k xs ++ x ∷ []
taken_next xs k x h = take_more xs k x (slice_get_within xs k x h) ∙ ap (λ y. take k xs ++ y ∷ []) (get_or_from_slice_get xs k x x h)

-- one more was read
pub mapped_next : {A X : Type 0} (f : A → X) (read after : List A) (a : A) (xs : List X) (k : ℕ) → after ≡ read ++ a ∷ [] → map f read ≡ take k xs → slice_get xs k ≡ Some (f a)
    → map f after ≡ take (k + 1) xs
mapped_next f read after a xs k e h at = ap (map f) e ∙ map-append f read (a ∷ []) ∙ ap (λ l. l ++ f a ∷ []) h ∙ sym (taken_next xs k (f a) at)

pub read_next : {X : Type 0} (read after : List X) (x : X) (xs : List X) (k : ℕ) → after ≡ read ++ x ∷ [] → read ≡ take k xs → slice_get xs k ≡ Some x → after ≡ take (k + 1) xs
read_next read after x xs k e h at = e ∙ ap (λ l. l ++ x ∷ []) h ∙ sym (taken_next xs k x at)

-- what a variable holds that is there
pub held_there : (vs : List (Option PlainValue)) (k : ℕ) (v : Option PlainValue) → k < length vs → v ≡ held_in (slice_get vs k) → slice_get vs k ≡ Some v
held_there vs k v lt e = let t = there vs k lt in t.1 ∙ ap (λ o. Some o) (sym (e ∙ ap held_in t.1))

next_is : {A X : Type 0} (f : A → X) (xs : List A) (i : ℕ) (x : A) → i < length xs → x ≡ get_or xs i x → map f (drop i xs) ≡ f x ∷ map f (drop (i + 1) xs)
next_is f xs i x lt e =
    let one : suc i ≡ i + 1 = omega arith in
    ap (map f) (drop-cons xs i x lt) ∙ (ap (λ v. f v ∷ map f (drop (suc i) xs)) (sym e) ∙ ap (λ n. f x ∷ map f (drop n xs)) one)

same_tails : {X : Type 0} (x y : X) (xs ys : List X) → x ≡ y → (x ∷ xs ≡ y ∷ ys) ↔ (xs ≡ ys)
same_tails x y xs ys e = (λ h. cc, λ h. cc)

-- what comes first is the same, so the rest decides
pub same_next : {A X : Type 0} (f : A → X) (xs ys : List A) (i : ℕ) (x y : A) → i < length xs → i < length ys → x ≡ get_or xs i x → y ≡ get_or ys i y → f x ≡ f y
    → (map f (drop i xs) ≡ map f (drop i ys)) ↔ (map f (drop (i + 1) xs) ≡ map f (drop (i + 1) ys))
same_next f xs ys i x y in_x in_y x_is y_is e =
    let nx = next_is f xs i x in_x x_is in
    let ny = next_is f ys i y in_y y_is in
    let t = same_tails (f x) (f y) (map f (drop (i + 1) xs)) (map f (drop (i + 1) ys)) e in
    (λ h. t.0 (sym nx ∙ (h ∙ ny)), λ h. nx ∙ (t.1 h ∙ sym ny))

-- one more was appended
pub grows : {X : Type 0} (old items after xs : List X) (k : ℕ) (x : X) → after ≡ items ++ x ∷ [] → items ≡ old ++ take k xs → slice_get xs k ≡ Some x → after ≡ old ++ take (k + 1) xs
grows old items after xs k x e h at = e ∙ (ap (λ l. l ++ x ∷ []) h ∙ (append_assoc old (take k xs) (x ∷ []) ∙ ap (λ l. old ++ l) (sym (taken_next xs k x at))))

-- a list has something at each of its places
pub not_there : {X : Type 0} (xs : List X) (k : ℕ) → k < length xs → None ≡ slice_get xs k → ⊥
not_there xs k lt h = let t = there xs k lt in let f : None ≡ Some t.0 = h ∙ t.1 in cc

-- a thread that runs, and threads of which none does
module _ {X : Type 0} (test : X → Bool) where
  or_true : (b : Bool) → (b || true) ≡ true
  or_true true = refl
  or_true false = refl

  pub some_pass : (xs : List X) (k : ℕ) → option_map_or test (slice_get xs k) false ≡ true → list_any test xs ≡ true
  some_pass [] k h = absurd (true≢false (sym h))
  some_pass (x ∷ xs) zero h = ap (λ b. b || list_any test xs) h
  some_pass (x ∷ xs) (suc k) h = ap (λ b. test x || b) (some_pass xs k h) ∙ or_true (test x)

  pub none_more : (xs : List X) (k : ℕ) → k < length xs → option_map_or test (slice_get xs k) false ≡ false → list_any test (take k xs) ≡ false → list_any test (take (k + 1) xs) ≡ false
  none_more xs k lt h none =
      let t = there xs k lt in
      let fails : test t.0 ≡ false = sym (ap (λ o. option_map_or test o false) t.1) ∙ h in
      let is : get_or xs k t.0 ≡ t.0 = get_or_from_slice_get xs k t.0 t.0 t.1 in
      list_any_more test xs k t.0 lt ∙ (ap (λ b. b || test (get_or xs k t.0)) none ∙ (ap test is ∙ fails))

plus_zero : (t : ℕ) → t ≡ 0 + t
plus_zero t = omega arith

pub turn_at : (w : PlainWorld) (t : ℕ) → t < length w.threads → slice_get (turns w) t ≡ Some (Turn (record { 0 = t }))
turn_at w t lt =
    let range = range_with_len 0 (length w.threads) in
    let at : slice_get range t ≡ Some t =
    slice_get_read range (length range) t t refl (omega (arith, length-range_with_len 0 (length w.threads))) (plus_zero t ∙ sym (get_or-range_with_len 0 (length w.threads) t t lt)) in
    slice_get-map (λ n. Turn (record { 0 = n })) range t ∙ ap (option_map (λ n. Turn (record { 0 = n }))) at

pub turn_count : (w : PlainWorld) → length (turns w) ≡ length w.threads
turn_count w = length-map-range_with_len (λ n. Turn (record { 0 = n })) 0 (length w.threads)
