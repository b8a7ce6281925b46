-- The rows of a table by their heads, and the first of a list.
use Rattle.std.proofs.Common.{◌≡◌, ℕ, zero, suc, ◌+◌, ◌-◌, ◌≤◌, Bool, true, false, ◌&&◌, ◌||◌, cond, List, [], ◌∷◌, ◌++◌, map, length, take, drop, Some, refl, sym, ap, ◌∙◌, arith, append_assoc}
use Rattle.std.specs.List.{filter, flat_map, list_any}
use Rattle.std.specs.Prelude.{slice_get}
use Rattle.std.proofs.lemmas.List.{append-nil, take_all, take_at, drop_all, drop_more, at_drop_more, at_drop_all}
use Rattle.std.proofs.lemmas.Option.{slice_get_within, get_or_from_slice_get}
use Rattle.cml_scan.specs.declared.meet.Place.{Place}
use Rattle.std.proofs.lemmas.List.Concat.{flat_map-append}
use Rattle.cml_value.specs.Value.{PlainBase}
use Rattle.cml_scan.specs.World.{PlainEntry}
use Rattle.cml_scan.specs.Light.{lit_by}
use Rattle.cml_scan.specs.Scan.{PlainOffer, offers_of, meets, can_meet, single, pair, pairs_with, rows_of, scan_of, partners_of, heads_of}
use Rattle.cml_scan.specs.Order.{Ascends, IsSorted, place, before, has_partner, base_at}
use Rattle.cml_scan.specs.declared.object.Light.{Light}
use Rattle.cml_scan.specs.declared.meet.Meet.{Meet}
use Rattle.cml_scan.proofs.Ordered.{offers_ascend}
use Rattle.cml_scan.proofs.Found.{singles_at, pairs_at, partners_found}
use Rattle.cml_scan.proofs.Heads.{AreAt, at_self, heads_found}
use Rattle.cml_scan.proofs.Partners.{lit_by-alone}

-- what a leaf begins that stands at its place
abbrev own_rows : (PlainBase → Bool) → List PlainOffer → PlainOffer → List Meet
own_rows is_lit xs o = cond (is_lit o.base) (single o ∷ []) [] ++ pairs_with xs o

partners_own : (is_lit : PlainBase → Bool) (xs : List PlainOffer) (o : PlainOffer) → Ascends before (map place xs) → base_at (place o) xs ≡ Some o.base
    → partners_of (rows_of is_lit xs) (place o) ≡ own_rows is_lit xs o
partners_own is_lit xs o up here = partners_found is_lit (place o) xs up ∙ ap (λ ob. singles_at is_lit (place o) ob ++ pairs_at xs (place o) ob) here

-- a lit leaf begins no pair
none_kept : (is_lit : PlainBase → Bool) → ((b c : PlainBase) → is_lit b ≡ true → meets b c ≡ false) → (h : PlainOffer) (ys : List PlainOffer) → is_lit h.base ≡ true → filter (can_meet h) ys ≡ []
none_kept is_lit alone h [] e = refl
none_kept is_lit alone h (y ∷ ys) e = rw (alone h.base y.base e, none_kept is_lit alone h ys e) (off _)
  where
    off : (b : Bool) → cond (b && false) (y ∷ []) [] ≡ []
    off true = refl
    off false = refl

none_any : (p : PlainOffer → Bool) (xs : List PlainOffer) → list_any p xs ≡ false → filter p xs ≡ []
none_any p [] e = refl
none_any p (x ∷ xs) e = at (p x) e (none_any p xs)
  where
    at : (b : Bool) → b || list_any p xs ≡ false → (list_any p xs ≡ false → filter p xs ≡ []) → cond b (x ∷ filter p xs) (filter p xs) ≡ []
    at true e k = cc
    at false e k = k e

some_any : (p : PlainOffer → Bool) (xs : List PlainOffer) → filter p xs ≡ [] → list_any p xs ≡ false
some_any p [] e = refl
some_any p (x ∷ xs) e = at (p x) e (some_any p xs)
  where
    at : (b : Bool) → cond b (x ∷ filter p xs) (filter p xs) ≡ [] → (filter p xs ≡ [] → list_any p xs ≡ false) → b || list_any p xs ≡ false
    at true e k = cc
    at false e k = k e

-- the rows of the lit leaves
lit_rows : (is_lit : PlainBase → Bool) → ((b c : PlainBase) → is_lit b ≡ true → meets b c ≡ false) → (xs ys : List PlainOffer) → Ascends before (map place xs) → AreAt xs ys
    → flat_map (partners_of (rows_of is_lit xs)) (map place (filter (λ o. is_lit o.base) ys)) ≡ map single (filter (λ o. is_lit o.base) ys)
lit_rows is_lit alone xs [] up here = refl
lit_rows is_lit alone xs (y ∷ ys) up here = at (is_lit y.base) refl (lit_rows is_lit alone xs ys up here.1)
  where
    own : is_lit y.base ≡ true → partners_of (rows_of is_lit xs) (place y) ≡ single y ∷ []
    own e = partners_own is_lit xs y up here.0 ∙ rw (e, none_kept is_lit alone y xs e) refl

    at : (b : Bool) → is_lit y.base ≡ b → flat_map (partners_of (rows_of is_lit xs)) (map place (filter (λ o. is_lit o.base) ys)) ≡ map single (filter (λ o. is_lit o.base) ys)
        → flat_map (partners_of (rows_of is_lit xs))
        (map place (cond b (y ∷ filter (λ o. is_lit o.base) ys) (filter (λ o. is_lit o.base) ys)))
        ≡ map single (cond b (y ∷ filter (λ o. is_lit o.base) ys) (filter (λ o. is_lit o.base) ys))
    at true e k = ap (λ rs. rs ++ flat_map (partners_of (rows_of is_lit xs)) (map place (filter (λ o. is_lit o.base) ys))) (own e) ∙ ap (λ rs. single y ∷ rs) k
    at false e k = k

-- the rows of the leaves that have a partner
pair_rows : (is_lit : PlainBase → Bool) → ((b c : PlainBase) → is_lit b ≡ true → meets b c ≡ false) → (xs ys : List PlainOffer) → Ascends before (map place xs) → AreAt xs ys
    → flat_map (partners_of (rows_of is_lit xs)) (map place (filter (has_partner xs) ys)) ≡ flat_map (pairs_with xs) ys
pair_rows is_lit alone xs [] up here = refl
pair_rows is_lit alone xs (y ∷ ys) up here = at (has_partner xs y) refl (pair_rows is_lit alone xs ys up here.1)
  where
    own : (l : Bool) → is_lit y.base ≡ l → has_partner xs y ≡ true → partners_of (rows_of is_lit xs) (place y) ≡ pairs_with xs y
    own true e g = let none = some_any (can_meet y) xs (none_kept is_lit alone y xs e) in cc
    own false e g = partners_own is_lit xs y up here.0 ∙ rw e refl

    at : (b : Bool) → has_partner xs y ≡ b → flat_map (partners_of (rows_of is_lit xs)) (map place (filter (has_partner xs) ys)) ≡ flat_map (pairs_with xs) ys
        → flat_map (partners_of (rows_of is_lit xs)) (map place (cond b (y ∷ filter (has_partner xs) ys) (filter (has_partner xs) ys))) ≡ pairs_with xs y ++ flat_map (pairs_with xs) ys
    at true g k = ap (λ rs. rs ++ flat_map (partners_of (rows_of is_lit xs)) (map place (filter (has_partner xs) ys))) (own (is_lit y.base) refl g) ∙ ap (λ rs. pairs_with xs y ++ rs) k
    at false g k = k ∙ ap (λ zs. map (pair y) zs ++ flat_map (pairs_with xs) ys) (sym (none_any (can_meet y) xs g))

rows_by_heads : (is_lit : PlainBase → Bool) → ((b c : PlainBase) → is_lit b ≡ true → meets b c ≡ false) → (xs : List PlainOffer) → Ascends before (map place xs)
    → flat_map (partners_of (rows_of is_lit xs)) (heads_of (rows_of is_lit xs)) ≡ rows_of is_lit xs
rows_by_heads is_lit alone xs up =
    ap (flat_map (partners_of (rows_of is_lit xs))) (heads_found is_lit alone xs up)
    ∙ flat_map-append (partners_of (rows_of is_lit xs)) (map place (filter (λ o. is_lit o.base) xs)) (map place (filter (has_partner xs) xs))
    ∙ (ap (λ rs. rs ++ flat_map (partners_of (rows_of is_lit xs)) (map place (filter (has_partner xs) xs))) (lit_rows is_lit alone xs xs up (at_self xs up))
    ∙ ap (λ rs. map single (filter (λ o. is_lit o.base) xs) ++ rs) (pair_rows is_lit alone xs xs up (at_self xs up)))

-- the rows that begin with each head in turn are all rows
pub scan_by_heads : (entries : List PlainEntry) (told : Light → Bool) → IsSorted entries → flat_map (partners_of (scan_of entries told)) (heads_of (scan_of entries told)) ≡ scan_of entries told
scan_by_heads entries told up = rows_by_heads (lit_by told) (lit_by-alone told) (offers_of entries) (offers_ascend entries up)

-- the first of a list
take_again : {X : Type 0} (n : ℕ) (xs ys : List X) → take n (take n xs ++ ys) ≡ take n (xs ++ ys)
take_again zero xs ys = refl
take_again (suc n) [] ys = refl
take_again (suc n) (x ∷ xs) ys = ap (λ zs. x ∷ zs) (take_again n xs ys)

drop_none : {X : Type 0} (k : ℕ) (ys : List X) → drop k ys ≡ drop k [] ++ drop k ys
drop_none zero ys = refl
drop_none (suc k) ys = refl

drop_by : {X : Type 0} (k n : ℕ) (xs ys : List X) → n ≡ k - length xs → drop k (xs ++ ys) ≡ drop k xs ++ drop n ys
drop_by k n [] ys h = let e : n ≡ k = omega arith in rw e (drop_none k ys)
drop_by zero n (x ∷ xs) ys h = let e : n ≡ 0 = omega arith in rw e refl
drop_by (suc k) n (x ∷ xs) ys h = drop_by k n xs ys (omega arith)

drop_both : {X : Type 0} (k : ℕ) (xs ys : List X) → drop k (xs ++ ys) ≡ drop k xs ++ drop (k - length xs) ys
drop_both k xs ys = drop_by k (k - length xs) xs ys refl

-- one piece more
pub one_piece : {X : Type 0} (limit left : ℕ) (rows own rest new : List X) → new ≡ take limit (rows ++ drop left own)
    → take limit (new ++ drop (left - length own) rest) ≡ take limit (rows ++ drop left (own ++ rest))
one_piece limit left rows own rest new is =
    ap (λ xs. take limit (xs ++ drop (left - length own) rest)) is
    ∙ (take_again limit (rows ++ drop left own) (drop (left - length own) rest)
    ∙ ap (take limit) (append_assoc rows (drop left own) (drop (left - length own) rest) ∙ ap (λ xs. rows ++ xs) (sym (drop_both left own rest))))

-- one row more
pub one_row : (limit j : ℕ) (rows own new : List Meet) (row : Meet) → slice_get own j ≡ Some row → new ≡ rows ++ row ∷ [] → take limit (new ++ drop (j + 1) own) ≡ take limit (rows ++ drop j own)
one_row limit j rows own new row at is =
    ap (λ xs. take limit (xs ++ drop (j + 1) own)) is
    ∙ ap (take limit) (append_assoc rows (row ∷ []) (drop (j + 1) own)
    ∙ ap (λ xs. rows ++ xs) (sym (drop_more own j row (slice_get_within own j row at) ∙ ap (λ x. x ∷ drop (j + 1) own) (get_or_from_slice_get own j row row at))))

-- so many are there
pub full_rows : (limit : ℕ) (rows more : List Meet) → length rows ≤ limit → limit ≤ length rows → take limit (rows ++ more) ≡ rows
full_rows limit rows more few many = take_at rows more limit (omega arith)

-- no more are there
pub no_rows : (limit j : ℕ) (rows own : List Meet) → length rows ≤ limit → length own ≤ j → take limit (rows ++ drop j own) ≡ rows
no_rows limit j rows own few past = ap (λ xs. take limit (rows ++ xs)) (drop_all j own past) ∙ (ap (take limit) (append-nil rows) ∙ take_all limit rows few)

-- the rows of one head more
pub one_head : (limit left k : ℕ) (all rows new : List Meet) (head : Place) (left' : ℕ) → slice_get (heads_of all) k ≡ Some head → new ≡ take limit (rows ++ drop left (partners_of all head))
    → left' ≡ left - length (partners_of all head)
    → take limit (new ++ drop left' (flat_map (partners_of all) (drop (k + 1) (heads_of all)))) ≡ take limit (rows ++ drop left (flat_map (partners_of all) (drop k (heads_of all))))
one_head limit left k all rows new head left' at is less =
    let behind = flat_map (partners_of all) (drop (k + 1) (heads_of all)) in
    let split : flat_map (partners_of all) (drop k (heads_of all)) ≡ partners_of all head ++ behind =
    at_drop_more (flat_map (partners_of all)) (heads_of all) k head (slice_get_within (heads_of all) k head at)
    ∙ ap (λ p. partners_of all p ++ behind) (get_or_from_slice_get (heads_of all) k head head at) in
    ap (λ n. take limit (new ++ drop n behind)) less
    ∙ (one_piece limit left rows (partners_of all head) behind new is ∙ ap (λ xs. take limit (rows ++ drop left xs)) (sym split))

-- those of no head more
pub no_heads : (limit left k : ℕ) (all rows : List Meet) → length rows ≤ limit → length (heads_of all) ≤ k → take limit (rows ++ drop left (flat_map (partners_of all) (drop k (heads_of all)))) ≡ rows
no_heads limit left k all rows few past = ap (λ xs. take limit (rows ++ drop left xs)) (at_drop_all (flat_map (partners_of all)) (heads_of all) k past) ∙ no_rows limit left rows [] few (omega arith)
