-- The rows that stay when threads go are the rows of the threads that stay.
use Rattle.std.proofs.Common.{◌≡◌, ℕ, ◌+◌, Bool, true, false, not, ◌||◌, cond, List, [], ◌∷◌, ◌++◌, map, refl, ap, sym, ◌∙◌}
use Rattle.std.specs.List.{filter, flat_map}
use Rattle.std.proofs.lemmas.List.Elements.{filter-append}
use Rattle.cml_value.specs.Value.{PlainBase}
use Rattle.cml_value.specs.Group.{bases}
use Rattle.cml_value.specs.declared.number.Tid.{Tid}
use Rattle.cml_scan.specs.World.{PlainWorld, PlainEntry, pending}
use Rattle.cml_scan.specs.Light.{light_of}
use Rattle.cml_scan.specs.Scan.{PlainOffer, can_meet, leaves_from, offers_of, single, pair, pairs_with, rows_of, scan, scan_of, is_among, names}
use Rattle.cml_scan.specs.Table.{without, AgreeFor}
use Rattle.cml_scan.specs.declared.object.Light.{Light}
use Rattle.cml_scan.specs.declared.meet.Meet.{Meet}
use Rattle.cml_scan.proofs.Told.{scan_of-light_of, scan_of-agree}

-- the thread, the leaf, the row stays
abbrev pub is_staying : List Tid → ℕ → Bool
is_staying gone thread = not (is_among gone thread)

abbrev pub leaf_stays : List Tid → PlainOffer → Bool
leaf_stays gone o = is_staying gone o.thread

abbrev pub row_stays : List Tid → Meet → Bool
row_stays gone row = not (names gone row)

-- filters in either order
swapped_at : {X : Type 0} (p q : X → Bool) (x : X) (xs : List X) (a b : Bool) → p x ≡ a → q x ≡ b → filter p (filter q xs) ≡ filter q (filter p xs)
    → filter p (cond b (x ∷ filter q xs) (filter q xs)) ≡ filter q (cond a (x ∷ filter p xs) (filter p xs))
swapped_at p q x xs true true e f h = rw (e, f) (ap (λ ys. x ∷ ys) h)
swapped_at p q x xs true false e f h = rw (f) h
swapped_at p q x xs false true e f h = rw (e) h
swapped_at p q x xs false false e f h = h

pub filters_swapped : {X : Type 0} (p q : X → Bool) (xs : List X) → filter p (filter q xs) ≡ filter q (filter p xs)
filters_swapped p q [] = refl
filters_swapped p q (x ∷ xs) = swapped_at p q x xs (p x) (q x) refl refl (filters_swapped p q xs)

filter-map_at : {X Y : Type 0} (q : Y → Bool) (f : X → Y) (x : X) (xs : List X) (b : Bool) → filter q (map f xs) ≡ map f (filter (λ y. q (f y)) xs)
    → cond b (f x ∷ filter q (map f xs)) (filter q (map f xs)) ≡ map f (cond b (x ∷ filter (λ y. q (f y)) xs) (filter (λ y. q (f y)) xs))
filter-map_at q f x xs true h = ap (λ ys. f x ∷ ys) h
filter-map_at q f x xs false h = h

pub filter-map : {X Y : Type 0} (q : Y → Bool) (f : X → Y) (xs : List X) → filter q (map f xs) ≡ map f (filter (λ x. q (f x)) xs)
filter-map q f [] = refl
filter-map q f (x ∷ xs) = filter-map_at q f x xs (q (f x)) (filter-map q f xs)

-- a thread's leaves stay or go together
leaves_stay : (gone : List Tid) (thread leaf : ℕ) (bs : List PlainBase) → is_staying gone thread ≡ true → filter (leaf_stays gone) (leaves_from thread leaf bs) ≡ leaves_from thread leaf bs
leaves_stay gone thread leaf [] h = refl
leaves_stay gone thread leaf (b ∷ bs) h = rw h (ap (λ os. record { thread = thread; leaf = leaf; base = b } ∷ os) (leaves_stay gone thread (leaf + 1) bs h))

leaves_go : (gone : List Tid) (thread leaf : ℕ) (bs : List PlainBase) → is_staying gone thread ≡ false → filter (leaf_stays gone) (leaves_from thread leaf bs) ≡ []
leaves_go gone thread leaf [] h = refl
leaves_go gone thread leaf (b ∷ bs) h = rw h (leaves_go gone thread (leaf + 1) bs h)

offers_at : (gone : List Tid) (e : PlainEntry) (es : List PlainEntry) (b : Bool) → is_staying gone e.thread ≡ b → offers_of (without gone es) ≡ filter (leaf_stays gone) (offers_of es)
    → offers_of (cond b (e ∷ without gone es) (without gone es)) ≡ filter (leaf_stays gone) (leaves_from e.thread 0 (bases e.group)) ++ filter (leaf_stays gone) (offers_of es)
offers_at gone e es true is h = rw (leaves_stay gone e.thread 0 (bases e.group) is) (ap (λ os. leaves_from e.thread 0 (bases e.group) ++ os) h)
offers_at gone e es false is h = rw (leaves_go gone e.thread 0 (bases e.group) is) h

-- the leaves of those that stay are the leaves that stay
pub offers_of-without : (gone : List Tid) (es : List PlainEntry) → offers_of (without gone es) ≡ filter (leaf_stays gone) (offers_of es)
offers_of-without gone [] = refl
offers_of-without gone (e ∷ es) =
    offers_at gone e es (is_staying gone e.thread) refl (offers_of-without gone es) ∙ sym (filter-append (leaf_stays gone) (leaves_from e.thread 0 (bases e.group)) (offers_of es))

filter_none : {X : Type 0} (p : X → Bool) (xs : List X) → ((x : X) → p x ≡ false) → filter p xs ≡ []
filter_none p [] h = refl
filter_none p (x ∷ xs) h = rw (h x) (filter_none p xs h)

-- a pair stays where both its threads do
pair_goes : (a b : Bool) → not a ≡ false → not (a || b) ≡ false
pair_goes true b e = refl
pair_goes false b e = cc

pair_stays : (a b : Bool) → not a ≡ true → not (a || b) ≡ not b
pair_stays true b e = cc
pair_stays false b e = refl

-- the rows of a head that goes, and of one that stays
pairs_go : (gone : List Tid) (os : List PlainOffer) (h : PlainOffer) → is_staying gone h.thread ≡ false → filter (row_stays gone) (pairs_with os h) ≡ []
pairs_go gone os h is =
    filter-map (row_stays gone) (pair h) (filter (can_meet h) os)
    ∙ ap (map (pair h)) (filter_none (λ o. row_stays gone (pair h o)) (filter (can_meet h) os) (λ o. pair_goes (is_among gone h.thread) (is_among gone o.thread) is))

stay_same : (gone : List Tid) (h : PlainOffer) (os : List PlainOffer) → is_staying gone h.thread ≡ true → filter (λ o. row_stays gone (pair h o)) os ≡ filter (leaf_stays gone) os
stay_same gone h [] is = refl
stay_same gone h (o ∷ os) is = rw (pair_stays (is_among gone h.thread) (is_among gone o.thread) is) (ap (λ ys. cond (leaf_stays gone o) (o ∷ ys) ys) (stay_same gone h os is))

pairs_stay : (gone : List Tid) (os : List PlainOffer) (h : PlainOffer) → is_staying gone h.thread ≡ true → filter (row_stays gone) (pairs_with os h) ≡ pairs_with (filter (leaf_stays gone) os) h
pairs_stay gone os h is =
    filter-map (row_stays gone) (pair h) (filter (can_meet h) os) ∙ ap (map (pair h)) (stay_same gone h (filter (can_meet h) os) is ∙ filters_swapped (leaf_stays gone) (can_meet h) os)

all_pairs_at : (gone : List Tid) (os rest : List PlainOffer) (h : PlainOffer) (b : Bool) → is_staying gone h.thread ≡ b
    → filter (row_stays gone) (flat_map (pairs_with os) rest) ≡ flat_map (pairs_with (filter (leaf_stays gone) os)) (filter (leaf_stays gone) rest)
    → filter (row_stays gone) (pairs_with os h) ++ filter (row_stays gone) (flat_map (pairs_with os) rest)
    ≡ flat_map (pairs_with (filter (leaf_stays gone) os)) (cond b (h ∷ filter (leaf_stays gone) rest) (filter (leaf_stays gone) rest))
all_pairs_at gone os rest h true is ih = rw (pairs_stay gone os h is, ih) refl
all_pairs_at gone os rest h false is ih = rw (pairs_go gone os h is, ih) refl

all_pairs : (gone : List Tid) (os rest : List PlainOffer)
    → filter (row_stays gone) (flat_map (pairs_with os) rest) ≡ flat_map (pairs_with (filter (leaf_stays gone) os)) (filter (leaf_stays gone) rest)
all_pairs gone os [] = refl
all_pairs gone os (h ∷ rest) =
    filter-append (row_stays gone) (pairs_with os h) (flat_map (pairs_with os) rest) ∙ all_pairs_at gone os rest h (is_staying gone h.thread) refl (all_pairs gone os rest)

pub rows_stay : (gone : List Tid) (is_lit : PlainBase → Bool) (os : List PlainOffer) → filter (row_stays gone) (rows_of is_lit os) ≡ rows_of is_lit (filter (leaf_stays gone) os)
rows_stay gone is_lit os =
    let singles : filter (row_stays gone) (map single (filter (λ o. is_lit o.base) os)) ≡ map single (filter (λ o. is_lit o.base) (filter (leaf_stays gone) os))
    = filter-map (row_stays gone) single (filter (λ o. is_lit o.base) os) ∙ ap (map single) (filters_swapped (leaf_stays gone) (λ o. is_lit o.base) os) in
    filter-append (row_stays gone) (map single (filter (λ o. is_lit o.base) os)) (flat_map (pairs_with os) os) ∙ rw (singles, all_pairs gone os os) refl

-- the scan of those that stay is what stays of the scan
pub scan_of-without : (gone : List Tid) (es : List PlainEntry) (told : Light → Bool) → scan_of (without gone es) told ≡ filter (λ row. not (names gone row)) (scan_of es told)
scan_of-without gone es told = ap (rows_of _) (offers_of-without gone es) ∙ sym (rows_stay gone _ (offers_of es))

-- the scan of a world that threads have left is the old one without the rows that name them
pub scan-without : (gone : List Tid) (v w : PlainWorld) → pending w ≡ without gone (pending v) → AgreeFor (pending w) (light_of w) (light_of v) → scan w ≡ filter (λ row. not (names gone row)) (scan v)
scan-without gone v w left lights =
    sym (scan_of-light_of w)
    ∙ scan_of-agree (pending w) (light_of w) (light_of v) lights
    ∙ ap (λ es. scan_of es (light_of v)) left
    ∙ scan_of-without gone (pending v) (light_of v)
    ∙ ap (filter (λ row. not (names gone row))) (scan_of-light_of v)
