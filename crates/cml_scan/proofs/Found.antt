-- The rows that a place begins, and whether a row is there, by the base events of the leaves at its places.
use Rattle.std.proofs.Common.{◌≡◌, Bool, true, false, cond, List, [], ◌∷◌, ◌++◌, map, Option, Some, None, refl, ap, sym, ◌∙◌}
use Rattle.std.specs.List.{filter, flat_map}
use Rattle.std.proofs.lemmas.List.{append-nil}
use Rattle.std.proofs.lemmas.List.Elements.{filter-append}
use Rattle.cml_value.specs.Value.{PlainBase}
use Rattle.cml_scan.specs.Scan.{PlainOffer, can_meet, single, pair, pairs_with, rows_of, place_of, same_place, partners_of}
use Rattle.cml_scan.specs.Order.{Every, Ascends, place, before, base_at}
use Rattle.cml_scan.specs.declared.meet.Meet.{Meet}
use Rattle.cml_scan.specs.declared.meet.Meet.TheVariants.{Single}
use Rattle.cml_scan.specs.declared.meet.Place.{Place}
use Rattle.cml_scan.proofs.Ordered.{same_is, later_away}

-- the leaf at a place
abbrev pub offer : Place → PlainBase → PlainOffer
offer p b = record { thread = p.tid.0; leaf = p.leaf; base = b }

-- the row of a leaf that is taken alone
abbrev pub single_at : (PlainBase → Bool) → Place → PlainBase → List Meet
single_at is_lit p b = cond (is_lit b) (Single p.tid p.leaf ∷ []) []

abbrev pub singles_at : (PlainBase → Bool) → Place → Option PlainBase → List Meet
singles_at is_lit p None = []
singles_at is_lit p (Some b) = single_at is_lit p b

abbrev pub pairs_at : List PlainOffer → Place → Option PlainBase → List Meet
pairs_at xs p None = []
pairs_at xs p (Some b) = pairs_with xs (offer p b)

-- a place is not among those that come after it
pub not_later : (p : Place) (ys : List PlainOffer) → Every (before p) (map place ys) → base_at p ys ≡ None
not_later p [] later = refl
not_later p (y ∷ ys) later = rw (later_away p (place y) later.0) (not_later p ys later.1)

no_singles : (is_lit : PlainBase → Bool) (p : Place) (ys : List PlainOffer) → base_at p ys ≡ None → partners_of (map single (filter (λ o. is_lit o.base) ys)) p ≡ []
no_singles is_lit p [] none = refl
no_singles is_lit p (y ∷ ys) none = at (same_place p (place y)) (is_lit y.base) refl none (no_singles is_lit p ys)
  where
    at : (b l : Bool) → same_place p (place y) ≡ b → cond b (Some y.base) (base_at p ys) ≡ None → (base_at p ys ≡ None → partners_of (map single (filter (λ o. is_lit o.base) ys)) p ≡ [])
        → partners_of (map single (cond l (y ∷ filter (λ o. is_lit o.base) ys) (filter (λ o. is_lit o.base) ys))) p ≡ []
    at true l e none k = cc
    at false true e none k = rw e (k none)
    at false false e none k = k none

pub singles_found : (is_lit : PlainBase → Bool) (p : Place) (ys : List PlainOffer) → Ascends before (map place ys)
    → partners_of (map single (filter (λ o. is_lit o.base) ys)) p ≡ singles_at is_lit p (base_at p ys)
singles_found is_lit p [] up = refl
singles_found is_lit p (y ∷ ys) up = at (same_place p (place y)) refl (singles_found is_lit p ys up.1)
  where
    here : p ≡ place y → same_place p (place y) ≡ true → (l : Bool) → partners_of (map single (filter (λ o. is_lit o.base) ys)) p ≡ []
        → partners_of (map single (cond l (y ∷ filter (λ o. is_lit o.base) ys) (filter (λ o. is_lit o.base) ys))) p ≡ cond l (Single p.tid p.leaf ∷ []) []
    here same e true none = rw (e, none) (ap (λ (q : Place). Single q.tid q.leaf ∷ []) (sym same))
    here same e false none = none

    there : (l : Bool) → same_place p (place y) ≡ false → partners_of (map single (filter (λ o. is_lit o.base) ys)) p ≡ singles_at is_lit p (base_at p ys)
        → partners_of (map single (cond l (y ∷ filter (λ o. is_lit o.base) ys) (filter (λ o. is_lit o.base) ys))) p ≡ singles_at is_lit p (base_at p ys)
    there true e k = rw e k
    there false e k = k

    at : (b : Bool) → same_place p (place y) ≡ b → partners_of (map single (filter (λ o. is_lit o.base) ys)) p ≡ singles_at is_lit p (base_at p ys)
        → partners_of (map single (filter (λ o. is_lit o.base) (y ∷ ys))) p ≡ singles_at is_lit p (cond b (Some y.base) (base_at p ys))
    at true e k =
        let same : p ≡ place y = same_is p (place y) e in
        let none : base_at p ys ≡ None = rw same (not_later (place y) ys up.0) in
        here same e (is_lit y.base) (no_singles is_lit p ys none)
    at false e k = there (is_lit y.base) e k

-- rows that all begin elsewhere, or all here
pub others_none : (p : Place) (h : PlainOffer) (ys : List PlainOffer) → same_place p (place h) ≡ false → partners_of (map (pair h) ys) p ≡ []
others_none p h [] e = refl
others_none p h (y ∷ ys) e = rw e (others_none p h ys e)

pub own_all : (p : Place) (h : PlainOffer) (ys : List PlainOffer) → same_place p (place h) ≡ true → partners_of (map (pair h) ys) p ≡ map (pair h) ys
own_all p h [] e = refl
own_all p h (y ∷ ys) e = rw e (ap (λ rs. pair h y ∷ rs) (own_all p h ys e))

no_pairs : (p : Place) (xs ys : List PlainOffer) → base_at p ys ≡ None → partners_of (flat_map (pairs_with xs) ys) p ≡ []
no_pairs p xs [] none = refl
no_pairs p xs (h ∷ ys) none = at (same_place p (place h)) refl none (no_pairs p xs ys)
  where
    at : (b : Bool) → same_place p (place h) ≡ b → cond b (Some h.base) (base_at p ys) ≡ None
        → (base_at p ys ≡ None → partners_of (flat_map (pairs_with xs) ys) p ≡ [])
        → partners_of (flat_map (pairs_with xs) (h ∷ ys)) p ≡ []
    at true e none k = cc
    at false e none k = filter-append (λ row. same_place p (place_of row)) (pairs_with xs h) (flat_map (pairs_with xs) ys) ∙ rw (others_none p h (filter (can_meet h) xs) e, k none) refl

pub pairs_found : (p : Place) (xs ys : List PlainOffer) → Ascends before (map place ys) → partners_of (flat_map (pairs_with xs) ys) p ≡ pairs_at xs p (base_at p ys)
pairs_found p xs [] up = refl
pairs_found p xs (h ∷ ys) up = at (same_place p (place h)) refl (pairs_found p xs ys up.1)
  where
    at : (b : Bool) → same_place p (place h) ≡ b → partners_of (flat_map (pairs_with xs) ys) p
        ≡ pairs_at xs p (base_at p ys) → partners_of (flat_map (pairs_with xs) (h ∷ ys)) p
        ≡ pairs_at xs p (cond b (Some h.base) (base_at p ys))
    at true e k =
        let same : p ≡ place h = same_is p (place h) e in
        let none : base_at p ys ≡ None = rw same (not_later (place h) ys up.0) in
        let whole : offer p h.base ≡ h = ap (λ (q : Place). offer q h.base) same in
        filter-append (λ row. same_place p (place_of row)) (pairs_with xs h) (flat_map (pairs_with xs) ys)
        ∙ rw (own_all p h (filter (can_meet h) xs) e, no_pairs p xs ys none)
        (append-nil (pairs_with xs h) ∙ ap (pairs_with xs) (sym whole))
    at false e k =
        filter-append (λ row. same_place p (place_of row)) (pairs_with xs h) (flat_map (pairs_with xs) ys) ∙ rw (others_none p h (filter (can_meet h) xs) e) k

-- the rows that a place begins: its own, if it is lit, and then its pairs
pub partners_found : (is_lit : PlainBase → Bool) (p : Place) (xs : List PlainOffer) → Ascends before (map place xs)
    → partners_of (rows_of is_lit xs) p ≡ singles_at is_lit p (base_at p xs) ++ pairs_at xs p (base_at p xs)
partners_found is_lit p xs up =
    filter-append (λ row. same_place p (place_of row)) (map single (filter (λ o. is_lit o.base) xs)) (flat_map (pairs_with xs) xs) ∙ rw (singles_found is_lit p xs up, pairs_found p xs xs up) refl
