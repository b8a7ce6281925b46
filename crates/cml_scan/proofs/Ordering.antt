-- The rows stand in order, and so each stands once.
use Rattle.std.proofs.Common.{◌≡◌, ◌≢◌, ℕ, Bool, true, false, ◌&&◌, ◌||◌, nat_eq, nat_lt, List, [], ◌∷◌, map, slice_index_or, refl, arith}
use Rattle.std.specs.Prelude.{All, AllPairs, IsTrue}
use Rattle.std.specs.List.{filter, flat_map}
use Rattle.std.proofs.lemmas.Bool.Decides.{nat_tests}
use Rattle.std.proofs.lemmas.List.Elements.{All-nil, All-cons}
use Rattle.std.proofs.lemmas.List.Kept.{AllPairs-cons}
use Rattle.cml_value.specs.Value.{PlainBase}
use Rattle.cml_scan.specs.World.{PlainWorld, pending}
use Rattle.cml_scan.specs.Light.{lit}
use Rattle.cml_scan.specs.Scan.{PlainOffer, offers_of, can_meet, single, pair, pairs_with, rows_of, scan, place_of, same_place, partners}
use Rattle.cml_scan.specs.Order.{Every, Ascends, place, before_numbers, before, row_before}
use Rattle.cml_scan.specs.declared.meet.Meet.{Meet}
use Rattle.cml_scan.specs.declared.meet.Meet.TheVariants.{Single, Pair}
use Rattle.cml_scan.specs.declared.meet.Place.{Place}
use Rattle.cml_scan.proofs.Ordered.{Every-append, Every-map, Every-unmap, Ascends-filter, Ascends-append, AreBefore, offers_ascend, pending_sorted}

pub All-Every : {X : Type 0} (t : X → Bool) (xs : List X) → Every t xs → All (λ x. IsTrue (t x)) xs
All-Every t [] h = All-nil (λ x. IsTrue (t x))
All-Every t (x ∷ xs) h = All-cons (λ x. IsTrue (t x)) x xs h.0 (All-Every t xs h.1)

pub AllPairs-Ascends : {X : Type 0} (r : X → X → Bool) (xs : List X) → Ascends r xs → AllPairs (λ x y. IsTrue (r x y)) xs
AllPairs-Ascends r [] up = λ i j d less within. absurd (omega arith)
AllPairs-Ascends r (x ∷ xs) up = AllPairs-cons (λ x y. IsTrue (r x y)) x xs (All-Every (r x) xs up.0) (AllPairs-Ascends r xs up.1)

Ascends-unmap : (os : List PlainOffer) → Ascends before (map place os) → Ascends (λ a b. before (place a) (place b)) os
Ascends-unmap [] up = tt
Ascends-unmap (o ∷ os) up = (Every-unmap (before (place o)) place os up.0, Ascends-unmap os up.1)

singles_up : (os : List PlainOffer) → Ascends (λ a b. before (place a) (place b)) os → Ascends row_before (map single os)
singles_up [] up = tt
singles_up (o ∷ os) up = (Every-map (row_before (single o)) single os up.0, singles_up os up.1)

own_pair : (a b : ℕ) (t : Bool) → t ≡ true → before_numbers a b a b || ((nat_eq a a && nat_eq b b) && t) ≡ true
own_pair a b true e = at a b
  where
    at : (a b : ℕ) → (nat_lt a a || (nat_eq a a && nat_lt b b)) || ((nat_eq a a && nat_eq b b) && true) ≡ true
    at a b = grind (arith, nat_tests)
own_pair a b false e = cc

own_pairs : (h o : PlainOffer) (os : List PlainOffer) → Every (λ p. before (place o) (place p)) os → Every (λ p. row_before (pair h o) (pair h p)) os
own_pairs h o [] up = tt
own_pairs h o (p ∷ os) up = (own_pair h.thread h.leaf (before (place o) (place p)) up.0, own_pairs h o os up.1)

pairs_up : (h : PlainOffer) (os : List PlainOffer) → Ascends (λ a b. before (place a) (place b)) os → Ascends row_before (map (pair h) os)
pairs_up h [] up = tt
pairs_up h (o ∷ os) up = (Every-map (row_before (pair h o)) (pair h) os (own_pairs h o os up.0), pairs_up h os up.1)

-- what holds of every pair of a head holds of all its rows
every_pair : (t : Meet → Bool) (h : PlainOffer) (os : List PlainOffer) → ((o : PlainOffer) → t (pair h o) ≡ true) → Every t (map (pair h) os)
every_pair t h [] each = tt
every_pair t h (o ∷ os) each = (each o, every_pair t h os each)

later_pair : (h o g p : PlainOffer) → before (place h) (place g) ≡ true → row_before (pair h o) (pair g p) ≡ true
later_pair h o g p e = rw e refl

later_pairs : (os : List PlainOffer) (h o : PlainOffer) (gs : List PlainOffer) → Every (λ g. before (place h) (place g)) gs → Every (row_before (pair h o)) (flat_map (pairs_with os) gs)
later_pairs os h o [] later = tt
later_pairs os h o (g ∷ gs) later =
    Every-append (row_before (pair h o)) (pairs_with os g) (flat_map (pairs_with os) gs)
    (every_pair (row_before (pair h o)) g (filter (can_meet g) os) (λ p. later_pair h o g p later.0)) (later_pairs os h o gs later.1)

pairs_before : (os : List PlainOffer) (h : PlainOffer) (gs ps : List PlainOffer) → Every (λ g. before (place h) (place g)) gs → AreBefore row_before (map (pair h) ps) (flat_map (pairs_with os) gs)
pairs_before os h gs [] later = tt
pairs_before os h gs (p ∷ ps) later = (later_pairs os h p gs later, pairs_before os h gs ps later)

all_pairs_up : (os gs : List PlainOffer) → Ascends (λ a b. before (place a) (place b)) os → Ascends (λ a b. before (place a) (place b)) gs → Ascends row_before (flat_map (pairs_with os) gs)
all_pairs_up os [] up gs_up = tt
all_pairs_up os (h ∷ gs) up gs_up =
    Ascends-append row_before (pairs_with os h) (flat_map (pairs_with os) gs)
    (pairs_up h (filter (can_meet h) os) (Ascends-filter (λ a b. before (place a) (place b)) (can_meet h) os up))
    (pairs_before os h gs (filter (can_meet h) os) gs_up.0)
    (all_pairs_up os gs up gs_up.1)

single_before : (o : PlainOffer) (os gs : List PlainOffer) → Every (row_before (single o)) (flat_map (pairs_with os) gs)
single_before o os [] = tt
single_before o os (g ∷ gs) = Every-append (row_before (single o)) (pairs_with os g) (flat_map (pairs_with os) gs)
    (every_pair (row_before (single o)) g (filter (can_meet g) os) (λ p. refl)) (single_before o os gs)

singles_before : (os gs ss : List PlainOffer) → AreBefore row_before (map single ss) (flat_map (pairs_with os) gs)
singles_before os gs [] = tt
singles_before os gs (s ∷ ss) = (single_before s os gs, singles_before os gs ss)

-- the rows of leaves in order are in order
pub rows_ascend : (is_lit : PlainBase → Bool) (os : List PlainOffer) → Ascends before (map place os) → Ascends row_before (rows_of is_lit os)
rows_ascend is_lit os up =
    let each : Ascends (λ a b. before (place a) (place b)) os = Ascends-unmap os up in
    Ascends-append row_before (map single (filter (λ o. is_lit o.base) os)) (flat_map (pairs_with os) os)
    (singles_up (filter (λ o. is_lit o.base) os) (Ascends-filter (λ a b. before (place a) (place b)) (λ o. is_lit o.base) os each))
    (singles_before os os (filter (λ o. is_lit o.base) os))
    (all_pairs_up os os each each)

pub scan-ascends : (w : PlainWorld) → Ascends row_before (scan w)
scan-ascends w = rows_ascend (lit w) (offers_of (pending w)) (offers_ascend (pending w) (pending_sorted w))

-- the rows of the scan are in order
pub scan-ordered : (w : PlainWorld) → AllPairs (λ r s. IsTrue (row_before r s)) (scan w)
scan-ordered w = AllPairs-Ascends row_before (scan w) (scan-ascends w)

-- no row comes before itself
pub before_differs : (r s : Meet) → row_before r s ≡ true → r ≢ s
before_differs r s e = λ same. let e2 : row_before s s ≡ true = rw (same) at e in none s e2
  where
    two : (a b : ℕ) → nat_lt a a || (nat_eq a a && nat_lt b b) ≡ true → ⊥
    two a b e = grind (arith, nat_tests)

    four : (a b c d : ℕ) → (nat_lt a a || (nat_eq a a && nat_lt b b)) || ((nat_eq a a && nat_eq b b) && (nat_lt c c || (nat_eq c c && nat_lt d d))) ≡ true → ⊥
    four a b c d e = grind (arith, nat_tests)

    none : (s : Meet) → row_before s s ≡ true → ⊥
    none (Single t k) e = two t.0 k e
    none (Pair t k o m) e = four t.0 k o.0 m e

-- each row of the scan stands once
pub scan-once : (w : PlainWorld) → AllPairs (λ r s. r ≢ s) (scan w)
scan-once w = λ i j d less within. before_differs (slice_index_or (scan w) i d) (slice_index_or (scan w) j d) (scan-ordered w i j d less within)

-- the rows of a head are in order
pub partners-ordered : (w : PlainWorld) (p : Place) → AllPairs (λ r s. IsTrue (row_before r s)) (partners w p)
partners-ordered w p = AllPairs-Ascends row_before (partners w p) (Ascends-filter row_before (λ row. same_place p (place_of row)) (scan w) (scan-ascends w))
