-- The entry of one thread among those of all, and the offers of one thread among those of all.
use Rattle.std.proofs.Common.{◌≡◌, ◌≢◌, ℕ, suc, ◌+◌, ◌<◌, ◌≤◌, Bool, true, false, not, ◌||◌, nat_eq, nat_lt, cond}
use Rattle.std.proofs.Common.{List, [], ◌∷◌, ◌++◌, map, length, ◌*◌, Option, None, refl, ap, sym, subst, ◌∙◌, arith}
use Rattle.std.specs.Prelude.{All, Any, slice_get}
use Rattle.std.specs.List.{filter, list_any}
use Rattle.std.proofs.lemmas.Bool.Decides.{nat_tests}
use Rattle.std.proofs.lemmas.List.{append-nil, map-append, length-append, length-map}
use Rattle.std.proofs.lemmas.List.Concat.{flat_map-append}
use Rattle.std.proofs.lemmas.List.Elements.{filter-append, filter_agree}
use Rattle.std.proofs.lemmas.List.Filters.{length-filter_both}
use Rattle.std.proofs.lemmas.List.Folds.{list_any_at}
use Rattle.std.proofs.lemmas.List.Elements.{All-head, All-tail}
use Rattle.std.proofs.lemmas.Nat.{mul-le}
use Rattle.cml_value.specs.Value.{PlainBase}
use Rattle.cml_value.specs.Group.{bases, scopes, nacks_of}
use Rattle.cml_value.specs.declared.number.Tid.{Tid}
use Rattle.cml_scan.specs.declared.meet.Place.{Place}
use Rattle.cml_scan.specs.World.{PlainEntry}
use Rattle.cml_scan.specs.Scan.{PlainOffer, leaves_from, offers_of, is_among}
use Rattle.cml_scan.specs.Table.{without, with_entry}
use Rattle.cml_scan.specs.Order.{place, before, Every, Ascends, IsSorted, base_at}
use Rattle.cml_scan.proofs.Enabling.{other_leaves, own_leaf}
use Rattle.cml_scan.proofs.Leaving.{filters_swapped, filter-map}
use Rattle.cml_scan.proofs.Ordered.{Every-weaker, Every-append, Every-passes, offers_ascend}
use Rattle.cml_objects.specs.Lanes.{is_own, is_others, others, run, with_run}
use Rattle.cml_index.specs.declared.slot.Slot.{Slot}
use Rattle.cml_index.specs.Slots.{is_slot, slot_leaves, lane_of}
use Rattle.cml_index.specs.Posts.{nacks_in}

-- a thread's leaves pass a test of threads together
leaves_pass : (test : ℕ → Bool) (thread leaf : ℕ) (bs : List PlainBase) → test thread ≡ true → filter (λ o. test o.thread) (leaves_from thread leaf bs) ≡ leaves_from thread leaf bs
leaves_pass test thread leaf [] h = refl
leaves_pass test thread leaf (b ∷ bs) h = rw h (ap (λ os. record { thread = thread; leaf = leaf; base = b } ∷ os) (leaves_pass test thread (leaf + 1) bs h))

leaves_fail : (test : ℕ → Bool) (thread leaf : ℕ) (bs : List PlainBase) → test thread ≡ false → filter (λ o. test o.thread) (leaves_from thread leaf bs) ≡ []
leaves_fail test thread leaf [] h = refl
leaves_fail test thread leaf (b ∷ bs) h = rw h (leaves_fail test thread (leaf + 1) bs h)

-- the leaves of those that pass are the leaves that pass
pub offers_by : (test : ℕ → Bool) (es : List PlainEntry) → offers_of (filter (λ e. test e.thread) es) ≡ filter (λ o. test o.thread) (offers_of es)
offers_by test [] = refl
offers_by test (e ∷ es) = at (test e.thread) refl (offers_by test es) ∙ sym (filter-append (λ o. test o.thread) (leaves_from e.thread 0 (bases e.group)) (offers_of es))
  where
    at : (b : Bool) → test e.thread ≡ b → offers_of (filter (λ e. test e.thread) es) ≡ filter (λ o. test o.thread) (offers_of es)
        → offers_of (cond b (e ∷ filter (λ e. test e.thread) es) (filter (λ e. test e.thread) es))
        ≡ filter (λ o. test o.thread) (leaves_from e.thread 0 (bases e.group))
        ++ filter (λ o. test o.thread) (offers_of es)
    at true is h = rw (leaves_pass test e.thread 0 (bases e.group) is) (ap (λ os. leaves_from e.thread 0 (bases e.group) ++ os) h)
    at false is h = rw (leaves_fail test e.thread 0 (bases e.group) is) h

-- a lane of offers that pass a test of threads is what passes of the lane
pub lane_by : (slot : PlainBase → Option Slot) (k : Slot) (test : ℕ → Bool) (os : List PlainOffer) → lane_of slot k (filter (λ o. test o.thread) os) ≡ filter (λ q. test q.tid.0) (lane_of slot k os)
lane_by slot k test os =
    ap (map place) (filters_swapped (λ o. is_slot k (slot o.base)) (λ o. test o.thread) os)
    ∙ sym (filter-map (λ q. test q.tid.0) place (filter (λ o. is_slot k (slot o.base)) os))

pub lane-append : (slot : PlainBase → Option Slot) (k : Slot) (xs ys : List PlainOffer) → lane_of slot k (xs ++ ys) ≡ lane_of slot k xs ++ lane_of slot k ys
lane-append slot k xs ys =
    ap (map place) (filter-append (λ o. is_slot k (slot o.base)) xs ys) ∙ map-append place (filter (λ o. is_slot k (slot o.base)) xs) (filter (λ o. is_slot k (slot o.base)) ys)

-- the offers of one group in a lane are one run
pub own_run : (slot : PlainBase → Option Slot) (k : Slot) (tid : Tid) (leaf : ℕ) (bs : List PlainBase) → lane_of slot k (leaves_from tid.0 leaf bs) ≡ run tid (slot_leaves k leaf (map slot bs))
own_run slot k tid leaf [] = refl
own_run slot k tid leaf (b ∷ bs) = at (is_slot k (slot b)) (own_run slot k tid (leaf + 1) bs)
  where
    at : (h : Bool) → lane_of slot k (leaves_from tid.0 (leaf + 1) bs) ≡ run tid (slot_leaves k (leaf + 1) (map slot bs))
        → map place (cond h (record { thread = tid.0; leaf = leaf; base = b }
        ∷ filter (λ o. is_slot k (slot o.base)) (leaves_from tid.0 (leaf + 1) bs))
        (filter (λ o. is_slot k (slot o.base)) (leaves_from tid.0 (leaf + 1) bs)))
        ≡ run tid (cond h (leaf ∷ slot_leaves k (leaf + 1) (map slot bs)) (slot_leaves k (leaf + 1) (map slot bs)))
    at true h = ap (λ ps. record { tid = tid; leaf = leaf } ∷ ps) h
    at false h = h

-- the offers in a lane stand in order
pub lane-ascends : (slot : PlainBase → Option Slot) (k : Slot) (es : List PlainEntry) → IsSorted es → Ascends before (lane_of slot k (offers_of es))
lane-ascends slot k es up =
    subst (Ascends before) (filter-both (offers_of es)) (at (offers_of es) (offers_ascend es up))
  where
    filter-both : (os : List PlainOffer) → map place (filter (λ o. is_slot k (slot o.base)) os) ≡ lane_of slot k os
    filter-both os = refl

    later : (p : Place) (os : List PlainOffer) → Every (before p) (map place os) → Every (before p) (map place (filter (λ o. is_slot k (slot o.base)) os))
    later p [] h = tt
    later p (o ∷ os) h = pick (is_slot k (slot o.base)) (later p os h.1)
      where
        pick : (b : Bool) → Every (before p) (map place (filter (λ o. is_slot k (slot o.base)) os))
            → Every (before p) (map place
            (cond b (o ∷ filter (λ o. is_slot k (slot o.base)) os) (filter (λ o. is_slot k (slot o.base)) os)))
        pick true k = (h.0, k)
        pick false k = k

    at : (os : List PlainOffer) → Ascends before (map place os) → Ascends before (map place (filter (λ o. is_slot k (slot o.base)) os))
    at [] up = tt
    at (o ∷ os) up = pick (is_slot k (slot o.base)) (at os up.1)
      where
        pick : (b : Bool) → Ascends before (map place (filter (λ o. is_slot k (slot o.base)) os))
            → Ascends before (map place (cond b (o ∷ filter (λ o. is_slot k (slot o.base)) os)
            (filter (λ o. is_slot k (slot o.base)) os)))
        pick true k = (later (place o) os up.0, k)
        pick false k = k

-- the threads below this one stand first

pub none_below : (t : ℕ) (e : PlainEntry) (es : List PlainEntry) → Every (λ x. nat_lt e.thread x.thread) es → nat_lt e.thread t ≡ false → filter (λ x. nat_lt x.thread t) es ≡ []
none_below t e [] later out = refl
none_below t e (x ∷ es) later out = let off : nat_lt x.thread t ≡ false = numbers e.thread x.thread t later.0 out in rw off (none_below t e es later.1 out)
  where
    numbers : (a b t : ℕ) → nat_lt a b ≡ true → nat_lt a t ≡ false → nat_lt b t ≡ false
    numbers a b t e f = grind (arith, nat_tests)

all_above : (t : ℕ) (es : List PlainEntry) → Every (λ x. nat_lt t x.thread) es → filter (λ x. nat_lt t x.thread) es ≡ es
all_above t [] each = refl
all_above t (x ∷ es) each = rw (each.0) (ap (λ ys. x ∷ ys) (all_above t es each.1))

-- a pending thread is found by a test
pub there_any : (t : ℕ) (es : List PlainEntry) → Any (λ e. e.thread ≡ t) es → list_any (λ e. nat_eq t e.thread) es ≡ true
there_any t es (k, x, within, at, is) = list_any_at (λ e. nat_eq t e.thread) es k x within (rw at (same x.thread t is))
  where
    same : (a b : ℕ) → a ≡ b → nat_eq b a ≡ true
    same a b e = grind (arith, nat_tests)

pub filter_fewer : {X : Type 0} (p : X → Bool) (xs : List X) → length (filter p xs) ≤ length xs
filter_fewer p [] = omega arith
filter_fewer p (x ∷ xs) = at (p x) (filter_fewer p xs)
  where
    at : (b : Bool) → length (filter p xs) ≤ length xs → length (cond b (x ∷ filter p xs) (filter p xs)) ≤ suc (length xs)
    at true h = omega arith
    at false h = omega arith

pub lt_is : (a b : ℕ) → a < b → nat_lt a b ≡ true
lt_is a b h = grind (arith, nat_tests)

pub ge_is : (a b : ℕ) → b ≤ a → nat_lt a b ≡ false
ge_is a b h = grind (arith, nat_tests)

-- the offers of an entry that goes

pub gone_one : (tid : Tid) (es : List PlainEntry) → filter (λ e. not (nat_eq tid.0 e.thread)) es ≡ without (tid ∷ []) es
gone_one tid es = filter_agree (λ e. not (nat_eq tid.0 e.thread)) (λ e. not (is_among (tid ∷ []) e.thread)) (λ e. at (nat_eq tid.0 e.thread)) es
  where
    at : (b : Bool) → not b ≡ not (b || false)
    at true = refl
    at false = refl

one_offers : (d : PlainEntry) → offers_of (d ∷ []) ≡ leaves_from d.thread 0 (bases d.group)
one_offers d = append-nil (leaves_from d.thread 0 (bases d.group))

pub left_lane : (slot : PlainBase → Option Slot) (k : Slot) (tid : Tid) (es : List PlainEntry) (d : PlainEntry) → filter (λ e. nat_eq tid.0 e.thread) es ≡ d ∷ [] → d.thread ≡ tid.0
    → length (slot_leaves k 0 (map slot (bases d.group))) ≡ length (filter (is_own tid) (lane_of slot k (offers_of es)))
left_lane slot k tid es d own is =
    let one : offers_of (d ∷ []) ≡ leaves_from tid.0 0 (bases d.group) = one_offers d ∙ ap (λ t. leaves_from t 0 (bases d.group)) is in
    let mine : filter (is_own tid) (lane_of slot k (offers_of es)) ≡ run tid (slot_leaves k 0 (map slot (bases d.group))) =
    sym (lane_by slot k (nat_eq tid.0) (offers_of es)) ∙ ap (lane_of slot k) (sym (offers_by (nat_eq tid.0) es) ∙ ap offers_of own ∙ one) ∙ own_run slot k tid 0 (bases d.group) in
    sym (ap length mine ∙ length-map (slot_leaves k 0 (map slot (bases d.group))) (λ leaf. record { tid = tid; leaf = leaf }))

pub left_rest : (slot : PlainBase → Option Slot) (k : Slot) (tid : Tid) (es : List PlainEntry)
    → lane_of slot k (offers_of (filter (λ e. not (nat_eq tid.0 e.thread)) es)) ≡ others tid (lane_of slot k (offers_of es))
left_rest slot k tid es = ap (lane_of slot k) (offers_by (λ n. not (nat_eq tid.0 n)) es) ∙ lane_by slot k (λ n. not (nat_eq tid.0 n)) (offers_of es)

pub leaves_many : (p : PlainBase → Bool) (t leaf : ℕ) (bs : List PlainBase) → length (filter (λ o. p o.base) (leaves_from t leaf bs)) ≡ length (filter p bs)
leaves_many p t leaf [] = refl
leaves_many p t leaf (b ∷ bs) = at (p b) (leaves_many p t (leaf + 1) bs)
  where
    at : (h : Bool) → length (filter (λ o. p o.base) (leaves_from t (leaf + 1) bs)) ≡ length (filter p bs)
        → length (cond h (record { thread = t; leaf = leaf; base = b }
        ∷ filter (λ o. p o.base) (leaves_from t (leaf + 1) bs))
        (filter (λ o. p o.base) (leaves_from t (leaf + 1) bs))) ≡ length (cond h (b ∷ filter p bs) (filter p bs))
    at true e = ap suc e
    at false e = e

pub leaves_all : (t leaf : ℕ) (bs : List PlainBase) → length (leaves_from t leaf bs) ≡ length bs
leaves_all t leaf [] = refl
leaves_all t leaf (b ∷ bs) = ap suc (leaves_all t (leaf + 1) bs)

-- how many offers there are that pass: those of one entry, and those of the others
pub left_count : (p : PlainBase → Bool) (t : ℕ) (es : List PlainEntry) (d : PlainEntry) → filter (λ e. nat_eq t e.thread) es ≡ d ∷ []
    → length (filter (λ o. p o.base) (offers_of es)) ≡ length (filter p (bases d.group)) + length (filter (λ o. p o.base) (offers_of (filter (λ e. not (nat_eq t e.thread)) es)))
left_count p t es d own =
    let P : PlainOffer → Bool = λ o. p o.base in
    let parts : length (filter (λ o. nat_eq t o.thread) (filter P (offers_of es))) + length (filter (λ o. not (nat_eq t o.thread)) (filter P (offers_of es))) ≡ length (filter P (offers_of es)) =
    length-filter_both (λ o. nat_eq t o.thread) (λ o. not (nat_eq t o.thread)) (λ _. refl) (filter P (offers_of es)) in
    let mine : length (filter (λ o. nat_eq t o.thread) (filter P (offers_of es))) ≡ length (filter p (bases d.group)) =
    ap length (filters_swapped (λ o. nat_eq t o.thread) P (offers_of es)
    ∙ ap (filter P) (sym (offers_by (nat_eq t) es) ∙ ap offers_of own ∙ one_offers d))
    ∙ leaves_many p d.thread 0 (bases d.group) in
    let rest : length (filter (λ o. not (nat_eq t o.thread)) (filter P (offers_of es))) ≡ length (filter P (offers_of (filter (λ e. not (nat_eq t e.thread)) es))) =
    ap length (filters_swapped (λ o. not (nat_eq t o.thread)) P (offers_of es) ∙ ap (filter P) (sym (offers_by (λ n. not (nat_eq t n)) es))) in
    omega (arith, parts, mine, rest)

pub left_all : (t : ℕ) (es : List PlainEntry) (d : PlainEntry) → filter (λ e. nat_eq t e.thread) es ≡ d ∷ []
    → length (offers_of es) ≡ length (bases d.group) + length (offers_of (filter (λ e. not (nat_eq t e.thread)) es))
left_all t es d own =
    let parts : length (filter (λ o. nat_eq t o.thread) (offers_of es)) + length (filter (λ o. not (nat_eq t o.thread)) (offers_of es)) ≡ length (offers_of es) =
    length-filter_both (λ o. nat_eq t o.thread) (λ o. not (nat_eq t o.thread)) (λ _. refl) (offers_of es) in
    let mine : length (filter (λ o. nat_eq t o.thread) (offers_of es)) ≡ length (bases d.group) =
    ap length (sym (offers_by (nat_eq t) es) ∙ ap offers_of own ∙ one_offers d) ∙ leaves_all d.thread 0 (bases d.group) in
    let rest : length (filter (λ o. not (nat_eq t o.thread)) (offers_of es)) ≡ length (offers_of (filter (λ e. not (nat_eq t e.thread)) es)) = ap length (sym (offers_by (λ n. not (nat_eq t n)) es)) in
    omega (arith, parts, mine, rest)

-- what holds of the nacks of all groups holds of those of some
pub nacks_left : (p : ℕ → Bool) (test : PlainEntry → Bool) (es : List PlainEntry) → Every p (nacks_in es) → Every p (nacks_in (filter test es))
nacks_left p test [] each = each
nacks_left p test (e ∷ es) each = at (test e) (nacks_left p test es (back (nacks_of (scopes e.group)) (nacks_in es) each))
  where
    back : (xs ys : List ℕ) → Every p (xs ++ ys) → Every p ys
    back [] ys h = h
    back (x ∷ xs) ys h = back xs ys h.1

    front : (xs ys : List ℕ) → Every p (xs ++ ys) → Every p xs
    front [] ys h = tt
    front (x ∷ xs) ys h = (h.0, front xs ys h.1)

    at : (b : Bool) → Every p (nacks_in (filter test es)) → Every p (nacks_in (cond b (e ∷ filter test es) (filter test es)))
    at true h = Every-append p (nacks_of (scopes e.group)) (nacks_in (filter test es)) (front (nacks_of (scopes e.group)) (nacks_in es) each) h
    at false h = h

-- the looks of one group's move: two for each leaf, and at most one search for each
pub move_cost : (t0 t1 t2 leaves waits left digits : ℕ) → t1 ≤ t0 + 2 * leaves → t2 ≤ t1 + waits * digits → waits ≤ leaves → t2 + left * (digits + 2) ≤ t0 + (leaves + left) * (digits + 2)
move_cost t0 t1 t2 leaves waits left digits a b few =
    let more : waits * digits ≤ leaves * digits = mul-le waits digits leaves digits few (omega arith) in
    omega arith

-- the entry that comes

pub all_apart : (t : ℕ) (es : List PlainEntry) → All (λ e. e.thread ≢ t) es → Every (λ e. not (nat_eq t e.thread)) es
all_apart t [] all = tt
all_apart t (e ∷ es) all = (apart e.thread t (All-head (λ (x : PlainEntry). x.thread ≢ t) e es all), all_apart t es (All-tail (λ (x : PlainEntry). x.thread ≢ t) e es all))
  where
    apart : (a b : ℕ) → a ≢ b → not (nat_eq b a) ≡ true
    apart a b e = grind (arith, nat_tests)

pub filter_every : {X : Type 0} (p : X → Bool) (xs : List X) → Every p xs → filter p xs ≡ xs
filter_every p [] each = refl
filter_every p (x ∷ xs) each = rw (each.0) (ap (λ ys. x ∷ ys) (filter_every p xs each.1))

-- no offer in a lane is of a thread that is not pending
pub lane_others : (slot : PlainBase → Option Slot) (k : Slot) (tid : Tid) (es : List PlainEntry) → Every (λ e. not (nat_eq tid.0 e.thread)) es → Every (is_others tid) (lane_of slot k (offers_of es))
lane_others slot k tid es apart =
    subst (Every (is_others tid)) (sym (left_rest slot k tid es)
    ∙ ap (λ xs. lane_of slot k (offers_of xs)) (filter_every (λ e. not (nat_eq tid.0 e.thread)) es apart))
    (Every-passes (is_others tid) (lane_of slot k (offers_of es)))

-- those below and those above are all
pub between : (t : ℕ) (es : List PlainEntry) → IsSorted es → Every (λ e. not (nat_eq t e.thread)) es → filter (λ x. nat_lt x.thread t) es ++ filter (λ x. nat_lt t x.thread) es ≡ es
between t [] up apart = refl
between t (e ∷ es) up apart = at (nat_lt e.thread t) refl (between t es up.1 apart.1)
  where
    high_off : (a t : ℕ) → nat_lt a t ≡ true → nat_lt t a ≡ false
    high_off a t h = grind (arith, nat_tests)

    high_on : (a t : ℕ) → nat_lt a t ≡ false → not (nat_eq t a) ≡ true → nat_lt t a ≡ true
    high_on a t h k = grind (arith, nat_tests)

    over : (a b t : ℕ) → nat_lt t a ≡ true → nat_lt a b ≡ true → nat_lt t b ≡ true
    over a b t h k = grind (arith, nat_tests)

    at : (b : Bool) → nat_lt e.thread t ≡ b → filter (λ x. nat_lt x.thread t) es ++ filter (λ x. nat_lt t x.thread) es ≡ es
        → filter (λ x. nat_lt x.thread t) (e ∷ es) ++ filter (λ x. nat_lt t x.thread) (e ∷ es) ≡ e ∷ es
    at true h whole =
        let off : nat_lt t e.thread ≡ false = high_off e.thread t h in
        rw (h, off) (ap (λ xs. e ∷ xs) whole)
    at false h whole =
        let on : nat_lt t e.thread ≡ true = high_on e.thread t h apart.0 in
        let none : filter (λ x. nat_lt x.thread t) es ≡ [] = none_below t e es up.0 h in
        let later : Every (λ x. nat_lt t x.thread) es = Every-weaker (λ x. nat_lt e.thread x.thread) (λ x. nat_lt t x.thread) es (λ x k. over e.thread x.thread t on k) up.0 in
        let rest : filter (λ x. nat_lt t x.thread) es ≡ es = all_above t es later in
        rw (h, none, on, rest) refl

-- the offers with those of one more entry
pub offers_with : (e : PlainEntry) (es : List PlainEntry)
    → offers_of (with_entry e es) ≡ filter (λ o. nat_lt o.thread e.thread) (offers_of es) ++ (leaves_from e.thread 0 (bases e.group) ++ filter (λ o. nat_lt e.thread o.thread) (offers_of es))
offers_with e es =
    flat_map-append (λ (x : PlainEntry). leaves_from x.thread 0 (bases x.group)) (filter (λ x. nat_lt x.thread e.thread) es) (e ∷ filter (λ x. nat_lt e.thread x.thread) es)
    ∙ rw (offers_by (λ n. nat_lt n e.thread) es, offers_by (nat_lt e.thread) es) refl

pub came_lane : (slot : PlainBase → Option Slot) (k : Slot) (tid : Tid) (e : PlainEntry) (es : List PlainEntry) → tid.0 ≡ e.thread
    → with_run tid (slot_leaves k 0 (map slot (bases e.group))) (lane_of slot k (offers_of es)) ≡ lane_of slot k (offers_of (with_entry e es))
came_lane slot k tid e es is =
    let low : lane_of slot k (filter (λ o. nat_lt o.thread e.thread) (offers_of es))
    ≡ filter (λ q. nat_lt q.tid.0 e.thread) (lane_of slot k (offers_of es)) = lane_by slot k
    (λ n. nat_lt n e.thread) (offers_of es) in
    let high : lane_of slot k (filter (λ o. nat_lt e.thread o.thread) (offers_of es))
    ≡ filter (λ q. nat_lt e.thread q.tid.0) (lane_of slot k (offers_of es)) = lane_by slot k (nat_lt e.thread)
    (offers_of es) in
    let mine : lane_of slot k (leaves_from e.thread 0 (bases e.group))
    ≡ run tid (slot_leaves k 0 (map slot (bases e.group))) = ap
    (λ t. lane_of slot k (leaves_from t 0 (bases e.group))) (sym is) ∙ own_run slot k tid 0 (bases e.group) in
    let own : filter (λ q. nat_lt q.tid.0 tid.0) (lane_of slot k (offers_of es))
    ≡ filter (λ q. nat_lt q.tid.0 e.thread) (lane_of slot k (offers_of es)) = ap
    (λ t. filter (λ q. nat_lt q.tid.0 t) (lane_of slot k (offers_of es))) is in
    let own2 : filter (λ q. nat_lt tid.0 q.tid.0) (lane_of slot k (offers_of es))
    ≡ filter (λ q. nat_lt e.thread q.tid.0) (lane_of slot k (offers_of es)) = ap
    (λ t. filter (λ q. nat_lt t q.tid.0) (lane_of slot k (offers_of es))) is in
    rw (own, own2, ← mine, ← low, ← high)
    (sym (ap (lane_of slot k) (offers_with e es)
    ∙ lane-append slot k (filter (λ o. nat_lt o.thread e.thread) (offers_of es)) (leaves_from e.thread 0 (bases e.group) ++ filter (λ o. nat_lt e.thread o.thread) (offers_of es))
    ∙ ap (λ qs. lane_of slot k (filter (λ o. nat_lt o.thread e.thread) (offers_of es)) ++ qs)
    (lane-append slot k (leaves_from e.thread 0 (bases e.group))
    (filter (λ o. nat_lt e.thread o.thread) (offers_of es)))))

-- how many offers pass, with those of one more entry
pub came_count : (p : PlainBase → Bool) (e : PlainEntry) (es : List PlainEntry) → IsSorted es → Every (λ x. not (nat_eq e.thread x.thread)) es
    → length (filter (λ o. p o.base) (offers_of (with_entry e es))) ≡ length (filter (λ o. p o.base) (offers_of es)) + length (filter p (bases e.group))
came_count p e es up apart =
    let P : PlainOffer → Bool = λ o. p o.base in
    let low : List PlainEntry = filter (λ x. nat_lt x.thread e.thread) es in
    let high : List PlainEntry = filter (λ x. nat_lt e.thread x.thread) es in
    let f : PlainEntry → List PlainOffer = λ x. leaves_from x.thread 0 (bases x.group) in
    let both : offers_of es ≡ offers_of low ++ offers_of high = ap offers_of (sym (between e.thread es up apart)) ∙ flat_map-append f low high in
    let three : offers_of (with_entry e es) ≡ offers_of low ++ (f e ++ offers_of high) = flat_map-append f low (e ∷ high) in
    let a : length (filter P (offers_of es)) ≡ length (filter P (offers_of low)) + length (filter P (offers_of high)) =
    ap (λ os. length (filter P os)) both ∙ ap length (filter-append P (offers_of low) (offers_of high)) ∙ length-append (filter P (offers_of low)) (filter P (offers_of high)) in
    let b : length (filter P (f e ++ offers_of high)) ≡ length (filter P (f e)) + length (filter P (offers_of high)) =
    ap length (filter-append P (f e) (offers_of high)) ∙ length-append (filter P (f e)) (filter P (offers_of high)) in
    let c : length (filter P (offers_of (with_entry e es))) ≡ length (filter P (offers_of low)) + length (filter P (f e ++ offers_of high)) =
    ap (λ os. length (filter P os)) three ∙ ap length (filter-append P (offers_of low) (f e ++ offers_of high)) ∙ length-append (filter P (offers_of low)) (filter P (f e ++ offers_of high)) in
    let d : length (filter P (f e)) ≡ length (filter p (bases e.group)) = leaves_many p e.thread 0 (bases e.group) in
    omega (arith, a, b, c, d)

pub came_all : (e : PlainEntry) (es : List PlainEntry) → IsSorted es → Every (λ x. not (nat_eq e.thread x.thread)) es
    → length (offers_of (with_entry e es)) ≡ length (offers_of es) + length (bases e.group)
came_all e es up apart =
    let low : List PlainEntry = filter (λ x. nat_lt x.thread e.thread) es in
    let high : List PlainEntry = filter (λ x. nat_lt e.thread x.thread) es in
    let f : PlainEntry → List PlainOffer = λ x. leaves_from x.thread 0 (bases x.group) in
    let a : length (offers_of es) ≡ length (offers_of low) + length (offers_of high) = ap length
    (ap offers_of (sym (between e.thread es up apart)) ∙ flat_map-append f low high)
    ∙ length-append (offers_of low) (offers_of high) in
    let b : length (f e ++ offers_of high) ≡ length (f e) + length (offers_of high) = length-append (f e) (offers_of high) in
    let c : length (offers_of (with_entry e es))
    ≡ length (offers_of low) + length (f e ++ offers_of high) = ap length (flat_map-append f low (e ∷ high))
    ∙ length-append (offers_of low) (f e ++ offers_of high) in
    let d : length (f e) ≡ length (bases e.group) = leaves_all e.thread 0 (bases e.group) in
    omega (arith, a, b, c, d)

-- the nacks of one more group
pub nacks_with : (p : ℕ → Bool) (e : PlainEntry) (es : List PlainEntry) → Every p (nacks_in es) → Every p (nacks_of (scopes e.group)) → Every p (nacks_in (with_entry e es))
nacks_with p e es each own =
    subst (Every p) (sym (flat_map-append (λ (x : PlainEntry). nacks_of (scopes x.group)) (filter (λ x. nat_lt x.thread e.thread) es) (e ∷ filter (λ x. nat_lt e.thread x.thread) es)))
    (Every-append p (nacks_in (filter (λ x. nat_lt x.thread e.thread) es))
    (nacks_of (scopes e.group) ++ nacks_in (filter (λ x. nat_lt e.thread x.thread) es))
    (nacks_left p (λ x. nat_lt x.thread e.thread) es each)
    (Every-append p (nacks_of (scopes e.group)) (nacks_in (filter (λ x. nat_lt e.thread x.thread) es)) own (nacks_left p (λ x. nat_lt e.thread x.thread) es each)))

-- a leaf of a thread that is not pending is none of theirs
pub base_none : (p : Place) (es : List PlainEntry) → filter (λ e. nat_eq p.tid.0 e.thread) es ≡ [] → base_at p (offers_of es) ≡ None
base_none p [] none = refl
base_none p (e ∷ es) none = at (nat_eq p.tid.0 e.thread) refl (base_none p es)
  where
    at : (b : Bool) → nat_eq p.tid.0 e.thread ≡ b
        → (filter (λ x. nat_eq p.tid.0 x.thread) es ≡ [] → base_at p (offers_of es) ≡ None)
        → base_at p (leaves_from e.thread 0 (bases e.group) ++ offers_of es) ≡ None
    at true h later = let some : e ∷ filter (λ x. nat_eq p.tid.0 x.thread) es ≡ [] = rw h at none in cc
    at false h later = other_leaves p e.thread 0 (bases e.group) (offers_of es) h ∙ later (rw h at none)

-- a leaf of a pending thread stands in its group
pub base_own : (p : Place) (es : List PlainEntry) (d : PlainEntry) → filter (λ e. nat_eq p.tid.0 e.thread) es ≡ d ∷ []
    → d.thread ≡ p.tid.0 → base_at p (offers_of es) ≡ slice_get (bases d.group) p.leaf
base_own p [] d own is = cc
base_own p (e ∷ es) d own is = at (nat_eq p.tid.0 e.thread) refl (base_own p es d)
  where
    at : (b : Bool) → nat_eq p.tid.0 e.thread ≡ b → (filter (λ x. nat_eq p.tid.0 x.thread) es ≡ d ∷ [] → d.thread ≡ p.tid.0 → base_at p (offers_of es) ≡ slice_get (bases d.group) p.leaf)
        → base_at p (leaves_from e.thread 0 (bases e.group) ++ offers_of es) ≡ slice_get (bases d.group) p.leaf
    at true h later =
        let all : e ∷ filter (λ x. nat_eq p.tid.0 x.thread) es ≡ d ∷ [] = rw h at own in
        let same : e ≡ d = cc in
        let none : filter (λ x. nat_eq p.tid.0 x.thread) es ≡ [] = cc in
        ap (λ n. base_at p (leaves_from n 0 (bases e.group) ++ offers_of es)) (ap (λ (x : PlainEntry). x.thread) same ∙ is)
        ∙ own_leaf p 0 p.leaf (bases e.group) (offers_of es) (omega arith) (base_none p es none) ∙ ap (λ (x : PlainEntry). slice_get (bases x.group) p.leaf) same
    at false h later = other_leaves p e.thread 0 (bases e.group) (offers_of es) h ∙ later (rw h at own) is
