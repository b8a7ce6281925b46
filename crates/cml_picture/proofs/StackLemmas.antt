-- Rows, one below the other.
use Rattle.std.proofs.Common.{◌≡◌, ℕ, ◌+◌, ◌<◌, ◌≤◌, List, [], ◌∷◌, ◌++◌, length, get_or, take, drop, arith, inl, inr, refl, sym, ap, subst, ◌∙◌, append-nil, take-append-drop}
use Rattle.std.specs.List.{fold}
use Rattle.std.proofs.lemmas.List.{take_more}
use Rattle.cml_value.specs.declared.number.NackId.{NackId}
use Rattle.cml_facts.specs.declared.narrative.deed.Happened.{Happened}
use Rattle.cml_picture.specs.declared.layout.mark.Mark.{Mark}
use Rattle.cml_picture.specs.declared.layout.mark.Shape.TheVariants as shape
use Rattle.cml_picture.specs.declared.sheet.sign.Sign.{Sign}
use Rattle.cml_picture.specs.Layouts.{row_height, top_row, AreStacked}
use Rattle.cml_picture.specs.Signs.{own_sign, fired_signs, signs_of}
use Rattle.cml_picture.specs.Stacks.{counted_rows, bottom_below, count_with, bottom_with, bottom_of, listed, AreTooMuch}

-- nacks that fire
pub fires_none : (t : ℕ) (ns : List NackId) → length ns < 1 → fired_signs t ns ≡ []
fires_none t [] h = refl
fires_none t (n ∷ ns) h = absurd (omega (arith, h))

pub fires_some : (t : ℕ) (ns : List NackId) → 1 ≤ length ns → fired_signs t ns ≡ own_sign shape.Nack t ∷ []
fires_some t [] h = absurd (omega (arith, h))
fires_some t (n ∷ ns) h = refl

-- what an item did that is not seen, or is
pub listed_none : (x : Happened) (signs : List Sign) → length signs < 1 → listed x signs ≡ []
listed_none x [] h = refl
listed_none x (s ∷ ss) h = absurd (omega (arith, h))

pub listed_some : (x : Happened) (signs : List Sign) → 1 ≤ length signs → listed x signs ≡ x ∷ []
listed_some x [] h = absurd (omega (arith, h))
listed_some x (s ∷ ss) h = refl

-- rows go down
bottom_grows : (n : ℕ) (xs : List Sign) → n ≤ bottom_below n xs
bottom_grows n [] = omega arith
bottom_grows n (x ∷ xs) = let h = bottom_grows (n + row_height x.shape) xs in omega (arith, h)

bottom_then : (n : ℕ) (xs ys : List Sign) → bottom_below n (xs ++ ys) ≡ bottom_below (bottom_below n xs) ys
bottom_then n [] ys = refl
bottom_then n (x ∷ xs) ys = bottom_then (n + row_height x.shape) xs ys

count_grows : (n : ℕ) (xs : List Sign) → n ≤ count_with n xs
count_grows n [] = omega arith
count_grows n (x ∷ xs) = let h = count_grows (n + counted_rows x.shape) xs in omega (arith, h)

count_then : (n : ℕ) (xs ys : List Sign) → count_with n (xs ++ ys) ≡ count_with (count_with n xs) ys
count_then n [] ys = refl
count_then n (x ∷ xs) ys = count_then (n + counted_rows x.shape) xs ys

-- the first so many go no further down, and are no more
pub first_within : (n : ℕ) (xs : List Sign) (k : ℕ) → bottom_below n (take k xs) ≤ bottom_below n xs
first_within n xs k =
    let e : bottom_below n xs ≡ bottom_below (bottom_below n (take k xs)) (drop k xs) =
    ap (λ ys. bottom_below n ys) (sym (take-append-drop k xs)) ∙ bottom_then n (take k xs) (drop k xs) in
    let h = bottom_grows (bottom_below n (take k xs)) (drop k xs) in
    omega (arith, e, h)

pub first_counted : (n : ℕ) (xs : List Sign) (k : ℕ) → count_with n (take k xs) ≤ count_with n xs
first_counted n xs k =
    let e : count_with n xs ≡ count_with (count_with n (take k xs)) (drop k xs) =
    ap (λ ys. count_with n ys) (sym (take-append-drop k xs)) ∙ count_then n (take k xs) (drop k xs) in
    let h = count_grows (count_with n (take k xs)) (drop k xs) in
    omega (arith, e, h)

-- one row more
pub bottom_next : (n : ℕ) (xs : List Sign) (i : ℕ) (d : Sign) → i < length xs →
    bottom_below n (take (i + 1) xs) ≡ bottom_below n (take i xs) + row_height (get_or xs i d).shape
bottom_next n xs i d lt = ap (λ ys. bottom_below n ys) (take_more xs i d lt) ∙ bottom_then n (take i xs) (get_or xs i d ∷ [])

pub count_next : (n : ℕ) (xs : List Sign) (i : ℕ) (d : Sign) → i < length xs →
    count_with n (take (i + 1) xs) ≡ count_with n (take i xs) + counted_rows (get_or xs i d).shape
count_next n xs i d lt = ap (λ ys. count_with n ys) (take_more xs i d lt) ∙ count_then n (take i xs) (get_or xs i d ∷ [])

pub row_within : (n : ℕ) (xs : List Sign) (i : ℕ) (d : Sign) → i < length xs → bottom_below n (take i xs) + row_height (get_or xs i d).shape ≤ bottom_below n xs
row_within n xs i d lt = let e = bottom_next n xs i d lt in let h = first_within n xs (i + 1) in omega (arith, e, h)

-- what is too much stays too much with more rows
pub too_much : (b n : ℕ) (xs : List Sign) (k : ℕ) → AreTooMuch (bottom_below b (take k xs)) (count_with n (take k xs)) → AreTooMuch (bottom_below b xs) (count_with n xs)
too_much b n xs k (inl h) = let g = first_counted n xs k in inl (omega (arith, h, g))
too_much b n xs k (inr h) = let g = first_within b xs k in inr (omega (arith, h, g))

pub too_much_at : (b n : ℕ) (xs : List Sign) (i : ℕ) (d : Sign) (h k : ℕ) → i < length xs → h ≡ row_height (get_or xs i d).shape → k ≡ counted_rows (get_or xs i d).shape →
    AreTooMuch (bottom_below b (take i xs) + h) (count_with n (take i xs) + k) → AreTooMuch (bottom_below b xs) (count_with n xs)
too_much_at b n xs i d h k lt high counts much =
    let e = bottom_next b xs i d lt in
    let f = count_next n xs i d lt in
    let down : bottom_below b (take i xs) + h ≡ bottom_below b (take (i + 1) xs) = omega (arith, e, high) in
    let more : count_with n (take i xs) + k ≡ count_with n (take (i + 1) xs) = omega (arith, f, counts) in
    too_much b n xs (i + 1) (subst (λ y. AreTooMuch (bottom_below b (take (i + 1) xs)) y) more (subst (λ y. AreTooMuch y (count_with n (take i xs) + k)) down much))

-- one mark more, below the others
pub stacked_more : (from : ℕ) (ms : List Mark) (m : Mark) (top : ℕ) → AreStacked from ms top → m.at ≡ top → AreStacked from (ms ++ m ∷ []) (top + row_height m.shape)
stacked_more from [] m top h e = (e ∙ sym h, ap (λ n. n + row_height m.shape) h)
stacked_more from (x ∷ ms) m top h e = (h.0, stacked_more (from + row_height x.shape) ms m top h.1 e)

-- one item more
bottom_of_then : (n : ℕ) (xs ys : List Happened) → fold bottom_with n (xs ++ ys) ≡ fold bottom_with (fold bottom_with n xs) ys
bottom_of_then n [] ys = refl
bottom_of_then n (x ∷ xs) ys = bottom_of_then (bottom_with n x) xs ys

pub bottom_more : (shown : List Happened) (x : Happened) (signs : List Sign) → signs ≡ signs_of x.deed → bottom_of (shown ++ listed x signs) ≡ bottom_below (bottom_of shown) signs
bottom_more shown x [] e = ap bottom_of (append-nil shown)
bottom_more shown x (s ∷ ss) e = bottom_of_then top_row shown (x ∷ []) ∙ ap (λ ys. bottom_below (bottom_of shown) ys) (sym e)

items_grow : (n : ℕ) (xs : List Happened) → n ≤ fold bottom_with n xs
items_grow n [] = omega arith
items_grow n (x ∷ xs) = let g = bottom_grows n (signs_of x.deed) in let h = items_grow (bottom_with n x) xs in omega (arith, g, h)

pub items_next : (xs : List Happened) (i : ℕ) (d : Happened) → i < length xs → bottom_of (take (i + 1) xs) ≡ bottom_with (bottom_of (take i xs)) (get_or xs i d)
items_next xs i d lt = ap bottom_of (take_more xs i d lt) ∙ bottom_of_then top_row (take i xs) (get_or xs i d ∷ [])

pub item_within : (xs : List Happened) (i : ℕ) (d : Happened) → i < length xs → bottom_with (bottom_of (take i xs)) (get_or xs i d) ≤ bottom_of xs
item_within xs i d lt =
    let e = items_next xs i d lt in
    let f : bottom_of xs ≡ fold bottom_with (bottom_of (take (i + 1) xs)) (drop (i + 1) xs) =
    ap bottom_of (sym (take-append-drop (i + 1) xs)) ∙ bottom_of_then top_row (take (i + 1) xs) (drop (i + 1) xs) in
    let h = items_grow (bottom_of (take (i + 1) xs)) (drop (i + 1) xs) in
    omega (arith, e, f, h)
