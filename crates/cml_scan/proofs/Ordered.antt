-- The pending threads of a world, and the leaves of sorted threads, stand in order.
use Rattle.std.proofs.Common.{◌≡◌, ℕ, ◌+◌, ◌<◌, Bool, true, false, not, ◌&&◌, ◌||◌, nat_eq, nat_lt, cond, List, [], ◌∷◌, ◌++◌, map, refl, arith}
use Rattle.std.specs.List.{filter}
use Rattle.std.proofs.lemmas.Bool.Decides.{nat_tests}
use Rattle.cml_value.specs.Value.{PlainBase}
use Rattle.cml_value.specs.Group.{bases}
use Rattle.cml_value.specs.declared.number.Tid.{Tid}
use Rattle.cml_scan.specs.World.{PlainThread, running, pending_on, ended, PlainWorld, PlainEntry, pending_from, pending}
use Rattle.cml_scan.specs.Scan.{PlainOffer, leaves_from, offers_of, same_place, is_among}
use Rattle.cml_scan.specs.Table.{without, with_entry}
use Rattle.cml_scan.specs.Order.{Every, Ascends, IsSorted, place, before}
use Rattle.cml_scan.specs.declared.meet.Place.{Place}

-- what holds of each

pub Every-weaker : {X : Type 0} (p q : X → Bool) (xs : List X) → ((x : X) → p x ≡ true → q x ≡ true) → Every p xs → Every q xs
Every-weaker p q [] h each = tt
Every-weaker p q (x ∷ xs) h each = (h x each.0, Every-weaker p q xs h each.1)

pub Every-append : {X : Type 0} (t : X → Bool) (xs ys : List X) → Every t xs → Every t ys → Every t (xs ++ ys)
Every-append t [] ys h k = k
Every-append t (x ∷ xs) ys h k = (h.0, Every-append t xs ys h.1 k)

pub Every-filter : {X : Type 0} (t f : X → Bool) (xs : List X) → Every t xs → Every t (filter f xs)
Every-filter t f [] h = tt
Every-filter t f (x ∷ xs) h = at (f x) (Every-filter t f xs h.1)
  where
    at : (b : Bool) → Every t (filter f xs) → Every t (cond b (x ∷ filter f xs) (filter f xs))
    at true k = (h.0, k)
    at false k = k

pub Every-passes : {X : Type 0} (f : X → Bool) (xs : List X) → Every f (filter f xs)
Every-passes f [] = tt
Every-passes f (x ∷ xs) = at (f x) refl (Every-passes f xs)
  where
    at : (b : Bool) → f x ≡ b → Every f (filter f xs) → Every f (cond b (x ∷ filter f xs) (filter f xs))
    at true e k = (e, k)
    at false e k = k

pub Every-map : {X Y : Type 0} (t : Y → Bool) (f : X → Y) (xs : List X) → Every (λ x. t (f x)) xs → Every t (map f xs)
Every-map t f [] h = tt
Every-map t f (x ∷ xs) h = (h.0, Every-map t f xs h.1)

pub Every-unmap : {X Y : Type 0} (t : Y → Bool) (f : X → Y) (xs : List X) → Every t (map f xs) → Every (λ x. t (f x)) xs
Every-unmap t f [] h = tt
Every-unmap t f (x ∷ xs) h = (h.0, Every-unmap t f xs h.1)

-- what stands in order

pub Ascends-filter : {X : Type 0} (r : X → X → Bool) (f : X → Bool) (xs : List X) → Ascends r xs → Ascends r (filter f xs)
Ascends-filter r f [] up = tt
Ascends-filter r f (x ∷ xs) up = at (f x) (Ascends-filter r f xs up.1)
  where
    at : (b : Bool) → Ascends r (filter f xs) → Ascends r (cond b (x ∷ filter f xs) (filter f xs))
    at true k = (Every-filter (r x) f xs up.0, k)
    at false k = k

-- each of the first list stands before each of the second
abbrev pub AreBefore : {X : Type 0} → (X → X → Bool) → List X → List X → Type 0
AreBefore r [] ys = Unit {0}
AreBefore r (x ∷ xs) ys = Every (r x) ys × AreBefore r xs ys

pub Ascends-append : {X : Type 0} (r : X → X → Bool) (xs ys : List X) → Ascends r xs → AreBefore r xs ys → Ascends r ys → Ascends r (xs ++ ys)
Ascends-append r [] ys up low rest = rest
Ascends-append r (x ∷ xs) ys up low rest = (Every-append (r x) xs ys up.0 low.0, Ascends-append r xs ys up.1 low.1 rest)

-- places

pub same_is : (p q : Place) → same_place p q ≡ true → p ≡ q
same_is p q e = at p.tid.0 p.leaf q.tid.0 q.leaf e
  where
    both : (a b c d : ℕ) → nat_eq a c && nat_eq b d ≡ true → (a ≡ c) × (b ≡ d)
    both a b c d e = grind (arith, nat_tests)

    at : (a b c d : ℕ) → nat_eq a c && nat_eq b d ≡ true → let p : Place = record { tid = record { 0 = a }; leaf = b } in let q : Place = record { tid = record { 0 = c }; leaf = d } in p ≡ q
    at a b c d e = let h = both a b c d e in cc

pub same_self : (p : Place) → same_place p p ≡ true
same_self p = at p.tid.0 p.leaf
  where
    at : (a b : ℕ) → nat_eq a a && nat_eq b b ≡ true
    at a b = grind (arith, nat_tests)

-- a place differs from those after it and before it
pub later_away : (p q : Place) → before p q ≡ true → same_place p q ≡ false
later_away p q e = at p.tid.0 p.leaf q.tid.0 q.leaf e
  where
    at : (a b c d : ℕ) → nat_lt a c || (nat_eq a c && nat_lt b d) ≡ true → nat_eq a c && nat_eq b d ≡ false
    at a b c d e = grind (arith, nat_tests)

pub earlier_away : (p q : Place) → before p q ≡ true → same_place q p ≡ false
earlier_away p q e = at p.tid.0 p.leaf q.tid.0 q.leaf e
  where
    at : (a b c d : ℕ) → nat_lt a c || (nat_eq a c && nat_lt b d) ≡ true → nat_eq c a && nat_eq d b ≡ false
    at a b c d e = grind (arith, nat_tests)

-- leaves of sorted threads

pub over_all : (t m : ℕ) (es : List PlainEntry) → Every (λ x. nat_lt t x.thread) es → Every (before (record { tid = record { 0 = t }; leaf = m })) (map place (offers_of es))
over_all t m [] h = tt
over_all t m (e ∷ es) h = leaves e.thread 0 (bases e.group) h.0 (over_all t m es h.1)
  where
    first : (t u m l : ℕ) → nat_lt t u ≡ true → nat_lt t u || (nat_eq t u && nat_lt m l) ≡ true
    first t u m l e = rw e refl

    leaves : (u l : ℕ) (bs : List PlainBase) → nat_lt t u ≡ true → Every (before (record { tid = record { 0 = t }; leaf = m })) (map place (offers_of es))
        → Every (before (record { tid = record { 0 = t }; leaf = m })) (map place (leaves_from u l bs ++ offers_of es))
    leaves u l [] h k = k
    leaves u l (b ∷ bs) h k = (first t u m l h, leaves u (l + 1) bs h k)

later_leaves : (t m l : ℕ) (bs : List PlainBase) (rest : List PlainOffer) → m < l → Every (before (record { tid = record { 0 = t }; leaf = m })) (map place rest)
    → Every (before (record { tid = record { 0 = t }; leaf = m })) (map place (leaves_from t l bs ++ rest))
later_leaves t m l [] rest low k = k
later_leaves t m l (b ∷ bs) rest low k = (next t m l low, later_leaves t m (l + 1) bs rest (omega arith) k)
  where
    next : (t m l : ℕ) → m < l → nat_lt t t || (nat_eq t t && nat_lt m l) ≡ true
    next t m l h = grind (arith, nat_tests)

leaves_ascend : (t l : ℕ) (bs : List PlainBase) (rest : List PlainOffer) → ((m : ℕ) → Every (before (record { tid = record { 0 = t }; leaf = m })) (map place rest)) → Ascends before (map place rest)
    → Ascends before (map place (leaves_from t l bs ++ rest))
leaves_ascend t l [] rest over up = up
leaves_ascend t l (b ∷ bs) rest over up = (later_leaves t l (l + 1) bs rest (omega arith) (over l), leaves_ascend t (l + 1) bs rest over up)

-- the leaves of sorted threads ascend by thread and leaf
pub offers_ascend : (es : List PlainEntry) → IsSorted es → Ascends before (map place (offers_of es))
offers_ascend [] up = tt
offers_ascend (e ∷ es) up = leaves_ascend e.thread 0 (bases e.group) (offers_of es) (λ m. over_all e.thread m es up.0) (offers_ascend es up.1)

-- the pending threads of a world

pub pending_past : (n m : ℕ) (ts : List PlainThread) → n < m → Every (λ x. nat_lt n x.thread) (pending_from m ts)
pending_past n m [] h = tt
pending_past n m (running ∷ ts) h = pending_past n (m + 1) ts (omega arith)
pending_past n m (pending_on g ∷ ts) h = (is_lt n m h, pending_past n (m + 1) ts (omega arith))
  where
    is_lt : (a b : ℕ) → a < b → nat_lt a b ≡ true
    is_lt a b h = grind (arith, nat_tests)
pending_past n m (ended ∷ ts) h = pending_past n (m + 1) ts (omega arith)

pending_from_sorted : (n : ℕ) (ts : List PlainThread) → IsSorted (pending_from n ts)
pending_from_sorted n [] = tt
pending_from_sorted n (running ∷ ts) = pending_from_sorted (n + 1) ts
pending_from_sorted n (pending_on g ∷ ts) = (pending_past n (n + 1) ts (omega arith), pending_from_sorted (n + 1) ts)
pending_from_sorted n (ended ∷ ts) = pending_from_sorted (n + 1) ts

pub pending_sorted : (w : PlainWorld) → IsSorted (pending w)
pending_sorted w = pending_from_sorted 0 w.threads

-- a change keeps the order

pub sorted_without : (gone : List Tid) (es : List PlainEntry) → IsSorted es → IsSorted (without gone es)
sorted_without gone es up = Ascends-filter (λ e f. nat_lt e.thread f.thread) (λ e. not (is_among gone e.thread)) es up

all_before : (e : PlainEntry) (fs bs : List PlainEntry) → Every (λ x. nat_lt x.thread e.thread) fs → Every (λ x. nat_lt e.thread x.thread) bs → AreBefore (λ e f. nat_lt e.thread f.thread) fs (e ∷ bs)
all_before e [] bs low high = tt
all_before e (f ∷ fs) bs low high =
    ((low.0, Every-weaker (λ x. nat_lt e.thread x.thread) (λ x. nat_lt f.thread x.thread) bs (λ x h. through f.thread e.thread x.thread low.0 h) high), all_before e fs bs low.1 high)
  where
    through : (a b c : ℕ) → nat_lt a b ≡ true → nat_lt b c ≡ true → nat_lt a c ≡ true
    through a b c h k = grind (arith, nat_tests)

pub sorted_with : (e : PlainEntry) (es : List PlainEntry) → IsSorted es → IsSorted (with_entry e es)
sorted_with e es up =
    let r : PlainEntry → PlainEntry → Bool = λ e f. nat_lt e.thread f.thread in
    let fs : List PlainEntry = filter (λ x. nat_lt x.thread e.thread) es in
    let bs : List PlainEntry = filter (λ x. nat_lt e.thread x.thread) es in
    Ascends-append r fs (e ∷ bs) (Ascends-filter r (λ x. nat_lt x.thread e.thread) es up)
    (all_before e fs bs (Every-passes (λ x. nat_lt x.thread e.thread) es) (Every-passes (λ x. nat_lt e.thread x.thread) es))
    (Every-passes (λ x. nat_lt e.thread x.thread) es, Ascends-filter r (λ x. nat_lt e.thread x.thread) es up)
