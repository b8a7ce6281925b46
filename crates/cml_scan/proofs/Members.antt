-- Which rows are there: those whose leaves are enabled.
use Rattle.std.proofs.Common.{◌≡◌, ℕ, Bool, true, false, ◌&&◌, ◌||◌, nat_eq, cond, List, [], ◌∷◌, ◌++◌, map, Option, Some, None, refl, ap, sym, ◌∙◌, arith}
use Rattle.std.specs.List.{filter}
use Rattle.std.proofs.lemmas.Bool.Decides.{nat_tests}
use Rattle.cml_value.specs.Value.{PlainBase}
use Rattle.cml_value.specs.declared.number.Tid.{Tid}
use Rattle.cml_scan.specs.Scan.{PlainOffer, can_meet, pair, pairs_with, rows_of, place_of, same_place, partners_of, same_row, has_row}
use Rattle.cml_scan.specs.Order.{Ascends, place, before, base_at, is_lit_there, meet_at, row_at}
use Rattle.cml_scan.specs.declared.meet.Meet.{Meet}
use Rattle.cml_scan.specs.declared.meet.Meet.TheVariants.{Single, Pair}
use Rattle.cml_scan.specs.declared.meet.Place.{Place}
use Rattle.cml_scan.proofs.Ordered.{same_is}
use Rattle.cml_scan.proofs.Found.{offer, singles_at, pairs_at, not_later, partners_found}

-- whether a row is there: only the rows of its place matter
row_elsewhere : (row r : Meet) → same_place (place_of row) (place_of r) ≡ false → same_row row r ≡ false
row_elsewhere (Single a i) (Single b j) e = e
row_elsewhere (Single a i) (Pair b j d l) e = refl
row_elsewhere (Pair a i c k) (Single b j) e = refl
row_elsewhere (Pair a i c k) (Pair b j d l) e = ap (λ t. t && (nat_eq c.0 d.0 && nat_eq k l)) e

pub own_rows : (row : Meet) (rs : List Meet) → has_row rs row ≡ has_row (partners_of rs (place_of row)) row
own_rows row [] = refl
own_rows row (r ∷ rs) = at (same_place (place_of row) (place_of r)) refl (own_rows row rs)
  where
    at : (b : Bool) → same_place (place_of row) (place_of r) ≡ b → has_row rs row ≡ has_row (partners_of rs (place_of row)) row
        → same_row row r || has_row rs row ≡ has_row (cond b (r ∷ partners_of rs (place_of row)) (partners_of rs (place_of row))) row
    at true e k = ap (λ t. same_row row r || t) k
    at false e k = rw (row_elsewhere row r e) k

self_same : (a b : ℕ) → nat_eq a a && nat_eq b b ≡ true
self_same a b = grind (arith, nat_tests)

no_single_here : (t : Tid) (l : ℕ) (h : PlainOffer) (ys : List PlainOffer) → has_row (map (pair h) ys) (Single t l) ≡ false
no_single_here t l h [] = refl
no_single_here t l h (y ∷ ys) = no_single_here t l h ys

single_there : (is_lit : PlainBase → Bool) (t : Tid) (l : ℕ) (xs : List PlainOffer) (ob : Option PlainBase)
    → let p : Place = record { tid = t; leaf = l } in has_row (singles_at is_lit p ob ++ pairs_at xs p ob) (Single t l)
    ≡ is_lit_there is_lit ob
single_there is_lit t l xs None = refl
single_there is_lit t l xs (Some b) = at (is_lit b)
  where
    at : (c : Bool) → has_row (cond c (Single t l ∷ []) [] ++ pairs_with xs (record { thread = t.0; leaf = l; base = b })) (Single t l) ≡ c
    at true = rw (self_same t.0 l) refl
    at false = no_single_here t l (record { thread = t.0; leaf = l; base = b }) (filter (can_meet (record { thread = t.0; leaf = l; base = b })) xs)

-- the pairs of a head with none at a place
no_pair_there : (h : PlainOffer) (q : Place) (ys : List PlainOffer) → base_at q ys ≡ None → has_row (map (pair h) (filter (can_meet h) ys)) (Pair (record { 0 = h.thread }) h.leaf q.tid q.leaf) ≡ false
no_pair_there h q [] none = refl
no_pair_there h q (y ∷ ys) none = at (same_place q (place y)) (can_meet h y) refl none (no_pair_there h q ys)
  where
    off : (b : Bool) → (b && false) || false ≡ false
    off true = refl
    off false = refl

    at : (s m : Bool) → same_place q (place y) ≡ s → cond s (Some y.base) (base_at q ys) ≡ None
        → (base_at q ys ≡ None → has_row (map (pair h) (filter (can_meet h) ys)) (Pair (record { 0 = h.thread }) h.leaf q.tid q.leaf) ≡ false)
        → has_row (map (pair h) (cond m (y ∷ filter (can_meet h) ys) (filter (can_meet h) ys))) (Pair (record { 0 = h.thread }) h.leaf q.tid q.leaf) ≡ false
    at true m e none f = cc
    at false true e none f = rw (e, f none) (off (nat_eq h.thread h.thread && nat_eq h.leaf h.leaf))
    at false false e none f = f none

abbrev pub meet_with : PlainOffer → Place → Option PlainBase → Bool
meet_with h q None = false
meet_with h q (Some b) = can_meet h (offer q b)

pair_there : (h : PlainOffer) (q : Place) (ys : List PlainOffer) → Ascends before (map place ys)
    → has_row (map (pair h) (filter (can_meet h) ys)) (Pair (record { 0 = h.thread }) h.leaf q.tid q.leaf)
    ≡ meet_with h q (base_at q ys)
pair_there h q [] up = refl
pair_there h q (y ∷ ys) up = at (same_place q (place y)) (can_meet h y) refl refl (pair_there h q ys up.1)
  where
    on : (t : Bool) → ((nat_eq h.thread h.thread && nat_eq h.leaf h.leaf) && true) || t ≡ true
    on t = rw (self_same h.thread h.leaf) refl

    off : (b t : Bool) → (b && false) || t ≡ t
    off true t = refl
    off false t = refl

    at : (s m : Bool) → same_place q (place y) ≡ s → can_meet h y ≡ m
        → has_row (map (pair h) (filter (can_meet h) ys)) (Pair (record { 0 = h.thread }) h.leaf q.tid q.leaf)
        ≡ meet_with h q (base_at q ys)
        → has_row (map (pair h) (cond m (y ∷ filter (can_meet h) ys) (filter (can_meet h) ys)))
        (Pair (record { 0 = h.thread }) h.leaf q.tid q.leaf) ≡ meet_with h q (cond s (Some y.base) (base_at q ys))
    at true true e f k =
        let same : q ≡ place y = same_is q (place y) e in
        let whole : offer q y.base ≡ y = ap (λ (p : Place). offer p y.base) same in
        rw e (on (has_row (map (pair h) (filter (can_meet h) ys)) (Pair (record { 0 = h.thread }) h.leaf q.tid q.leaf))) ∙ sym (ap (can_meet h) whole ∙ f)
    at true false e f k =
        let same : q ≡ place y = same_is q (place y) e in
        let none : base_at q ys ≡ None = rw same (not_later (place y) ys up.0) in
        let whole : offer q y.base ≡ y = ap (λ (p : Place). offer p y.base) same in
        no_pair_there h q ys none ∙ sym (ap (can_meet h) whole ∙ f)
    at false true e f k = rw e (off (nat_eq h.thread h.thread && nat_eq h.leaf h.leaf) (has_row (map (pair h) (filter (can_meet h) ys)) (Pair (record { 0 = h.thread }) h.leaf q.tid q.leaf))) ∙ k
    at false false e f k = k

pair_found : (is_lit : PlainBase → Bool) (a : Tid) (i : ℕ) (c : Tid) (k : ℕ) (xs : List PlainOffer)
    (ob : Option PlainBase) → Ascends before (map place xs)
    → let p : Place = record { tid = a; leaf = i } in let q : Place = record { tid = c; leaf = k } in
    has_row (singles_at is_lit p ob ++ pairs_at xs p ob) (Pair a i c k) ≡ meet_at a.0 c.0 ob (base_at q xs)
pair_found is_lit a i c k xs None up = refl
pair_found is_lit a i c k xs (Some b) up =
    let h : PlainOffer = record { thread = a.0; leaf = i; base = b } in
    let q : Place = record { tid = c; leaf = k } in
    skip (is_lit b) ∙ pair_there h q xs up ∙ last (base_at q xs)
  where
    skip : (l : Bool) → has_row (cond l (Single a i ∷ []) []
        ++ pairs_with xs (record { thread = a.0; leaf = i; base = b })) (Pair a i c k)
        ≡ has_row (pairs_with xs (record { thread = a.0; leaf = i; base = b })) (Pair a i c k)
    skip true = refl
    skip false = refl

    last : (ob : Option PlainBase) → meet_with (record { thread = a.0; leaf = i; base = b }) (record { tid = c; leaf = k }) ob ≡ meet_at a.0 c.0 (Some b) ob
    last None = refl
    last (Some d) = refl

-- whether a row is there, by the base events at its places
pub has_found : (is_lit : PlainBase → Bool) (row : Meet) (xs : List PlainOffer) → Ascends before (map place xs) → has_row (rows_of is_lit xs) row ≡ row_at is_lit (λ p. base_at p xs) row
has_found is_lit (Single t l) xs up =
    let p : Place = record { tid = t; leaf = l } in
    own_rows (Single t l) (rows_of is_lit xs) ∙ ap (λ rs. has_row rs (Single t l)) (partners_found is_lit p xs up) ∙ single_there is_lit t l xs (base_at p xs)
has_found is_lit (Pair a i c k) xs up =
    let p : Place = record { tid = a; leaf = i } in
    own_rows (Pair a i c k) (rows_of is_lit xs) ∙ ap (λ rs. has_row rs (Pair a i c k)) (partners_found is_lit p xs up) ∙ pair_found is_lit a i c k xs (base_at p xs) up
