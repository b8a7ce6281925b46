-- Lists with items left out are selections.
use Rattle.std.proofs.Common.{◌≡◌, ◌∙◌, ℕ, zero, suc, ◌+◌, ◌-◌, ◌<◌, ◌≤◌, List, [], ◌∷◌, ◌++◌, length, take, drop, not, filter, remove, get_or}
use Rattle.std.proofs.Common.{refl, sym, ap, subst, arith, append_assoc, append-nil, take-append-drop, length-append}
use Rattle.std.specs.Prelude.{Some, None, slice_get, slice_range, IsPermutation, Vec, Result, Ok, Err, IfOk}
use Rattle.std.specs.declared.alloc.Global.{Global}
use Rattle.std.proofs.lemmas.List.{drop_more}
use Rattle.std.proofs.lemmas.List.Sorted.{IsPermutation-refl, IsPermutation-trans, IsPermutation-append_left, IsPermutation-append_right, IsPermutation-append_comm}
use Rattle.std.proofs.lemmas.List.Sorted.{IsPermutation-middle, IsPermutation-remove, IsPermutation-filter_both, length_permutation}
use Rattle.cml_schedule.specs.declared.item.Item.{Item}
use Rattle.cml_explore.specs.Cuts.{acts_in, without_rest, IsSelection}

pub selection_of_all : (items : List Item) → IsSelection items items
selection_of_all items = ([], subst (IsPermutation items) (sym (append-nil items)) (IsPermutation-refl items))

pub selection_trans : (a b c : List Item) → IsSelection a b → IsSelection b c → IsSelection a c
selection_trans a b c (x, p) (y, q) = (
  y ++ x,
  subst (IsPermutation a) (append_assoc c y x) (IsPermutation-trans a (b ++ x) ((c ++ y) ++ x) p (IsPermutation-append_left x b (c ++ y) q)),
)

pub selection_few : (given items : List Item) → IsSelection given items → length items ≤ length given
selection_few given items (x, p) = omega (arith, length_permutation given (items ++ x) p, length-append items x)

-- what stands between is left out
between_selects : (a m d : List Item) → IsSelection (a ++ (m ++ d)) (a ++ d)
between_selects a m d = (
  m,
  subst (IsPermutation (a ++ (m ++ d))) (sym (append_assoc a d m)) (IsPermutation-append_right a (m ++ d) (d ++ m) (IsPermutation-append_comm m d)),
)

-- one is moved to before what stood between
moved_between : (a m d : List Item) (x : Item) → IsPermutation (a ++ (m ++ x ∷ d)) (((a ++ x ∷ []) ++ m) ++ d)
moved_between a m d x =
    let same : a ++ (x ∷ (m ++ d)) ≡ ((a ++ x ∷ []) ++ m) ++ d = sym (append_assoc (a ++ x ∷ []) m d ∙ append_assoc a (x ∷ []) (m ++ d)) in
    subst (IsPermutation (a ++ (m ++ x ∷ d))) same (IsPermutation-append_right a (m ++ x ∷ d) (x ∷ (m ++ d)) (IsPermutation-middle m x d))

drop_none : (n : ℕ) → (let none : List Item = [] in drop n none ≡ [])
drop_none zero = refl
drop_none (suc n) = refl

drop_on : (i k : ℕ) (xs : List Item) → drop k (drop i xs) ≡ drop (i + k) xs
drop_on zero k [] = let e : k ≡ 0 + k = omega arith in let none : List Item = [] in ap (λ n. drop n none) e
drop_on zero k (x ∷ xs) = let e : k ≡ 0 + k = omega arith in ap (λ n. drop n (x ∷ xs)) e
drop_on (suc i) k [] = drop_none k ∙ sym (drop_none (suc i + k))
drop_on (suc i) k (x ∷ xs) = let e : suc (i + k) ≡ suc i + k = omega arith in drop_on i k xs ∙ ap (λ n. drop n (x ∷ xs)) e

-- all of them: those before, those between, and those behind
in_three : (xs : List Item) (i j : ℕ) → i ≤ j → take i xs ++ (slice_range xs i j ++ drop j xs) ≡ xs
in_three xs i j le =
    let e : i + (j - i) ≡ j = omega arith in
    let behind : drop (j - i) (drop i xs) ≡ drop j xs = drop_on i (j - i) xs ∙ ap (λ n. drop n xs) e in
    ap (λ ys. take i xs ++ (slice_range xs i j ++ ys)) (sym behind)
    ∙ (ap (λ ys. take i xs ++ ys) (take-append-drop (j - i) (drop i xs)) ∙ take-append-drop i xs)

pub range_selects : (xs ys : List Item) (i j : ℕ) → i ≤ j → ys ≡ take i xs ++ drop j xs → IsSelection xs ys
range_selects xs ys i j le is =
    subst (λ all. IsSelection all ys) (in_three xs i j le)
    (subst (IsSelection (take i xs ++ (slice_range xs i j ++ drop j xs))) (sym is) (between_selects (take i xs) (slice_range xs i j) (drop j xs)))

item_is : (xs : List Item) (n : ℕ) (x : Item) → slice_get xs n ≡ Some x → x ≡ get_or xs n x
item_is [] n x there = absurd (let h : None ≡ Some x = there in cc)
item_is (y ∷ xs) zero x there = let h : Some y ≡ Some x = there in let e : x ≡ y = cc in e
item_is (y ∷ xs) (suc n) x there = item_is xs n x there

pub moved_selects : (xs ys : List Item) (x : Item) (from to : ℕ) → to ≤ from → from < length xs → slice_get xs from ≡ Some x
    → ys ≡ take to xs ++ x ∷ [] ++ slice_range xs to from ++ drop (from + 1) xs → IsSelection xs ys
moved_selects xs ys x from to le lt there is =
    let here : drop from xs ≡ x ∷ drop (from + 1) xs = drop_more xs from x lt ∙ ap (λ y. y ∷ drop (from + 1) xs) (sym (item_is xs from x there)) in
    let whole : take to xs ++ (slice_range xs to from ++ x ∷ drop (from + 1) xs) ≡ xs =
    ap (λ zs. take to xs ++ (slice_range xs to from ++ zs)) (sym here) ∙ in_three xs to from le in
    let moved : IsPermutation xs ys =
    subst (λ all. IsPermutation all ys) whole
    (subst (IsPermutation (take to xs ++ (slice_range xs to from ++ x ∷ drop (from + 1) xs))) (sym is) (moved_between (take to xs) (slice_range xs to from) (drop (from + 1) xs) x)) in
    ([], subst (IsPermutation xs) (sym (append-nil ys)) moved)

-- without one of them
some_item : (xs : List Item) (n : ℕ) → n < length xs → (x : Item) × (x ≡ get_or xs n x)
some_item [] n lt = absurd (omega arith)
some_item (y ∷ xs) zero lt = (y, refl)
some_item (y ∷ xs) (suc n) lt = some_item xs n (omega arith)

-- the same where there was memory for it
pub moved_ok : {E : Type 0} (r : Result (Vec Item Global) E) (xs : List Item) (x : Item) (from to : ℕ) → to ≤ from → from < length xs
    → IfOk r (λ moved. (slice_get xs from ≡ Some x) × (moved.items ≡ take to xs ++ x ∷ [] ++ slice_range xs to from ++ drop (from + 1) xs))
    → IfOk r (λ moved. IsSelection xs moved.items)
moved_ok (Ok moved) xs x from to le lt is = moved_selects xs moved.items x from to le lt is.0 is.1
moved_ok (Err e) xs x from to le lt is = tt

pub item_selects : (xs ys : List Item) (n : ℕ) → n < length xs → ys ≡ remove xs n → IsSelection xs ys
item_selects xs ys n lt is =
    let here = some_item xs n lt in
    let x : Item = here.0 in (
      x ∷ [],
      subst (λ zs. IsPermutation xs (zs ++ x ∷ [])) (sym is)
          (IsPermutation-trans xs (x ∷ remove xs n) (remove xs n ++ x ∷ []) (IsPermutation-remove xs n x lt here.1) (IsPermutation-append_comm (x ∷ []) (remove xs n))),
    )

pub rest_selects : (xs ys : List Item) (t n : ℕ) → ys ≡ without_rest xs t n → IsSelection xs ys
rest_selects xs ys t n is =
    let others = filter (λ item. not (acts_in t item)) (drop n xs) in
    let own = filter (λ item. not (not (acts_in t item))) (drop n xs) in
    let apart : IsPermutation (drop n xs) (others ++ own) =
    IsPermutation-filter_both (λ item. not (acts_in t item)) (λ item. not (not (acts_in t item))) (λ item. refl) (drop n xs) in
    let all : IsPermutation xs (take n xs ++ (others ++ own)) =
    subst (λ zs. IsPermutation zs (take n xs ++ (others ++ own))) (take-append-drop n xs) (IsPermutation-append_right (take n xs) (drop n xs) (others ++ own) apart) in
    (own, subst (IsPermutation xs) (sym (append_assoc (take n xs) others own) ∙ ap (λ zs. zs ++ own) (sym is)) all)
