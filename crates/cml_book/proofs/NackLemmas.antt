-- Which nacks are live, and which have fired, after a change.
use Rattle.std.proofs.Common.{◌≡◌, ◌≢◌, ℕ, ◌+◌, ◌≤◌, Bool, true, false, ◌&&◌, ◌||◌, nat_eq, nat_lt, cond, List, []}
use Rattle.std.proofs.Common.{◌∷◌, ◌++◌, length, refl, ap, sym, ◌∙◌, arith, zero, suc, Option, Some, None}
use Rattle.std.proofs.Common.{length-set, zero-add}
use Rattle.std.specs.Prelude.{slice_set, slice_get}
use Rattle.std.specs.List.{filter, list_any, list_all}
use Rattle.std.proofs.lemmas.List.Sums.{sum_by-append, sum_by-cons}
use Rattle.std.proofs.lemmas.Bool.Decides.{nat_tests}
use Rattle.cml_value.specs.Group.{PlainGroup, PlainScope, scopes, nacks_of, lies_outside}
use Rattle.cml_scan.specs.World.{PlainThread, running, pending_on, ended, PlainNack, fresh_of, live, fired, held, PlainWorld, pending_from}
use Rattle.cml_scan.specs.Light.{has_fired}
use Rattle.cml_value.specs.declared.number.Tid.{Tid}
use Rattle.cml_objects.specs.NackCell.{owner_of, is_live_nack, is_fired}
use Rattle.cml_book.specs.Sync.{times_named, with_each, is_fresh_for, can_enter}
use Rattle.cml_book.specs.Commit.{settled}
use Rattle.cml_book.specs.Keeping.{pending_nacks, lives, AreLiveNacks, AreFresh, is_fresh}

-- a new fresh nack is not live
pub lives-push : (ns : List PlainNack) (k t : ℕ) → lives (slice_get (ns ++ fresh_of t ∷ []) k) ≡ lives (slice_get ns k)
lives-push [] zero t = refl
lives-push [] (suc k) t = refl
lives-push (n ∷ ns) zero t = refl
lives-push (n ∷ ns) (suc k) t = lives-push ns k t

pub times-append : (k : ℕ) (xs ys : List ℕ) → times_named k (xs ++ ys) ≡ times_named k xs + times_named k ys
times-append k xs ys = sum_by-append (λ j. cond (nat_eq j k) 1 0) xs ys

pub times-named : (j k : ℕ) (ks : List ℕ) → nat_eq j k ≡ true → times_named k (j ∷ ks) ≡ 1 + times_named k ks
times-named j k ks e = sum_by-cons (λ x. cond (nat_eq x k) 1 0) j ks ∙ ap (λ b. cond b 1 0 + times_named k ks) e

pub times-other : (j k : ℕ) (ks : List ℕ) → nat_eq j k ≡ false → times_named k (j ∷ ks) ≡ times_named k ks
times-other j k ks e = sum_by-cons (λ x. cond (nat_eq x k) 1 0) j ks ∙ ap (λ b. cond b 1 0 + times_named k ks) e ∙ zero-add (times_named k ks)

-- the nacks of a thread that waits are one more group's
pub nacks-wait : (k n i : ℕ) (ts : List PlainThread) (g : PlainGroup) → slice_get ts i ≡ Some running
    → times_named k (pending_nacks (pending_from n (slice_set ts i (pending_on g)))) ≡ times_named k (pending_nacks (pending_from n ts)) + times_named k (nacks_of (scopes g))
nacks-wait k n i [] g h = cc
nacks-wait k n zero (running ∷ ts) g h = times-append k (nacks_of (scopes g)) (pending_nacks (pending_from (n + 1) ts)) ∙ omega arith
nacks-wait k n zero (pending_on x ∷ ts) g h = cc
nacks-wait k n zero (ended ∷ ts) g h = cc
nacks-wait k n (suc i) (running ∷ ts) g h = nacks-wait k (n + 1) i ts g h
nacks-wait k n (suc i) (pending_on x ∷ ts) g h =
    let ih = nacks-wait k (n + 1) i ts g h in
    let a = times-append k (nacks_of (scopes x)) (pending_nacks (pending_from (n + 1) (slice_set ts i (pending_on g)))) in
    let b = times-append k (nacks_of (scopes x)) (pending_nacks (pending_from (n + 1) ts)) in
    omega arith
nacks-wait k n (suc i) (ended ∷ ts) g h = nacks-wait k (n + 1) i ts g h

-- and of one that goes on, one less
pub nacks-resume : (k n i : ℕ) (ts : List PlainThread) (g : PlainGroup) → slice_get ts i ≡ Some (pending_on g)
    → times_named k (pending_nacks (pending_from n (slice_set ts i running))) + times_named k (nacks_of (scopes g)) ≡ times_named k (pending_nacks (pending_from n ts))
nacks-resume k n i [] g h = cc
nacks-resume k n zero (running ∷ ts) g h = cc
nacks-resume k n zero (pending_on x ∷ ts) g h =
    let same : x ≡ g = cc in
    let a = times-append k (nacks_of (scopes x)) (pending_nacks (pending_from (n + 1) ts)) in
    rw (← same) (omega arith)
nacks-resume k n zero (ended ∷ ts) g h = cc
nacks-resume k n (suc i) (running ∷ ts) g h = nacks-resume k (n + 1) i ts g h
nacks-resume k n (suc i) (pending_on x ∷ ts) g h =
    let ih = nacks-resume k (n + 1) i ts g h in
    let a = times-append k (nacks_of (scopes x)) (pending_nacks (pending_from (n + 1) (slice_set ts i running))) in
    let b = times-append k (nacks_of (scopes x)) (pending_nacks (pending_from (n + 1) ts)) in
    omega arith
nacks-resume k n (suc i) (ended ∷ ts) g h = nacks-resume k (n + 1) i ts g h

-- what stands at another place, and at this one
pub get-set_other : {X : Type 0} (xs : List X) (i j : ℕ) (x : X) → i ≢ j → slice_get (slice_set xs i x) j ≡ slice_get xs j
get-set_other [] i j x h = refl
get-set_other (y ∷ xs) zero zero x h = absurd (h refl)
get-set_other (y ∷ xs) zero (suc j) x h = refl
get-set_other (y ∷ xs) (suc i) zero x h = refl
get-set_other (y ∷ xs) (suc i) (suc j) x h = get-set_other xs i j x (λ e. h (ap suc e))

pub get-set_same : {X : Type 0} (xs : List X) (i : ℕ) (x y : X) → slice_get xs i ≡ Some y → slice_get (slice_set xs i x) i ≡ Some x
get-set_same [] i x y h = cc
get-set_same (z ∷ xs) zero x y h = refl
get-set_same (z ∷ xs) (suc i) x y h = get-set_same xs i x y h

-- live, where it counts
pub lives-live : (o : Option PlainNack) → 1 ≤ lives o → o ≡ Some live
lives-live (Some live) h = refl
lives-live _ h = absurd (omega arith)

pub lives-le : (o : Option PlainNack) → lives o ≤ 1
lives-le (Some live) = omega arith
lives-le _ = omega arith

pub first_live : (k : ℕ) (ks : List ℕ) (ns : List PlainNack) → AreLiveNacks (k ∷ ks) ns → slice_get ns k ≡ Some live
first_live k ks ns h =
    let e = h.each k in
    let one : nat_eq k k ≡ true = grind (arith, nat_tests) in
    let two = times-named k k ks one in
    lives-live (slice_get ns k) (omega arith)

-- the others are live still, once the first is not
pub rest_live : (k : ℕ) (ks : List ℕ) (ns : List PlainNack) (n : PlainNack) → lives (Some n) ≡ 0 → AreLiveNacks (k ∷ ks) ns → AreLiveNacks ks (slice_set ns k n)
rest_live k ks ns n dead h = record { each = λ j. at j (nat_eq k j) refl }
  where
    at : (j : ℕ) (b : Bool) → nat_eq k j ≡ b → times_named j ks ≤ lives (slice_get (slice_set ns k n) j)
    at j true e =
        let same : k ≡ j = grind (arith, nat_tests) in
        let all = h.each j in
        let one = times-named k j ks e in
        let most = lives-le (slice_get ns j) in
        omega arith
    at j false e =
        let differ : k ≢ j = grind (arith, nat_tests) in
        let all = h.each j in
        let none = times-other k j ks e in
        let same : lives (slice_get (slice_set ns k n) j) ≡ lives (slice_get ns j) = ap lives (get-set_other ns k j n differ) in
        omega arith

-- what becomes of the nack of a scope
abbrev pub settled_one : ℕ → PlainScope → PlainNack
settled_one n s = cond (lies_outside n s) fired held

-- the nacks of these scopes settled one after another, as the code goes
abbrev pub settled_in_turn : ℕ → List PlainScope → List PlainNack → List PlainNack
settled_in_turn n [] nacks = nacks
settled_in_turn n (s ∷ ss) nacks = settled_in_turn n ss (slice_set nacks s.nack (settled_one n s))

pub settled_one-dead : (n : ℕ) (s : PlainScope) → lives (Some (settled_one n s)) ≡ 0
settled_one-dead n s = at (lies_outside n s)
  where
    at : (b : Bool) → lives (Some (cond b fired held)) ≡ 0
    at true = refl
    at false = refl

-- The nacks of a group that goes on are live no more, and the others as before.
pub lives-settled : (n : ℕ) (ss : List PlainScope) (ns : List PlainNack) (k : ℕ) → AreLiveNacks (nacks_of ss) ns
    → lives (slice_get (settled_in_turn n ss ns) k) + times_named k (nacks_of ss) ≡ lives (slice_get ns k)
lives-settled n [] ns k h = omega arith
lives-settled n (s ∷ ss) ns k h =
    let ih = lives-settled n ss (slice_set ns s.nack (settled_one n s)) k (rest_live s.nack (nacks_of ss) ns (settled_one n s) (settled_one-dead n s) h) in
    at (nat_eq s.nack k) refl ih
  where
    at : (b : Bool) → nat_eq s.nack k ≡ b
        → lives (slice_get (settled_in_turn n ss (slice_set ns s.nack (settled_one n s))) k) + times_named k
        (nacks_of ss) ≡ lives (slice_get (slice_set ns s.nack (settled_one n s)) k)
        → lives (slice_get (settled_in_turn n ss (slice_set ns s.nack (settled_one n s))) k) + times_named k (s.nack ∷ nacks_of ss) ≡ lives (slice_get ns k)
    at true e ih =
        let same : s.nack ≡ k = grind (arith, nat_tests) in
        let alive : slice_get ns s.nack ≡ Some live = first_live s.nack (nacks_of ss) ns h in
        let now : lives (slice_get (slice_set ns s.nack (settled_one n s)) k) ≡ 0 = rw (← same) (ap lives (get-set_same ns s.nack (settled_one n s) live alive) ∙ settled_one-dead n s) in
        let before : lives (slice_get ns k) ≡ 1 = rw (← same) (ap lives alive) in
        let once = times-named s.nack k (nacks_of ss) e in
        omega arith
    at false e ih =
        let differ : s.nack ≢ k = grind (arith, nat_tests) in
        let none = times-other s.nack k (nacks_of ss) e in
        let other : lives (slice_get (slice_set ns s.nack (settled_one n s)) k) ≡ lives (slice_get ns k) = ap lives (get-set_other ns s.nack k (settled_one n s) differ) in
        omega arith

-- A nack has fired where it had, or where it is one of those that the leaf loses.
pub fired-settled : (n : ℕ) (ss : List PlainScope) (ns : List PlainNack) (k : ℕ) → AreLiveNacks (nacks_of ss) ns
    → has_fired (slice_get (settled_in_turn n ss ns) k) ≡ list_any (λ j. nat_eq j k) (nacks_of (filter (lies_outside n) ss)) || has_fired (slice_get ns k)
fired-settled n [] ns k h = refl
fired-settled n (s ∷ ss) ns k h =
    let ih = fired-settled n ss (slice_set ns s.nack (settled_one n s)) k (rest_live s.nack (nacks_of ss) ns (settled_one n s) (settled_one-dead n s) h) in
    ih ∙ at (nat_eq s.nack k) (lies_outside n s) refl refl
  where
    rest : Bool
    rest = list_any (λ j. nat_eq j k) (nacks_of (filter (lies_outside n) ss))

    alive : slice_get ns s.nack ≡ Some live
    alive = first_live s.nack (nacks_of ss) ns h

    or_true : (b : Bool) → b || true ≡ true
    or_true true = refl
    or_true false = refl

    at : (b o : Bool) → nat_eq s.nack k ≡ b → lies_outside n s ≡ o
        → rest || has_fired (slice_get (slice_set ns s.nack (cond (lies_outside n s) fired held)) k)
        ≡ list_any (λ j. nat_eq j k) (nacks_of (cond (lies_outside n s) (s ∷ filter (lies_outside n) ss) (filter (lies_outside n) ss))) || has_fired (slice_get ns k)
    at true true e f =
        let same : s.nack ≡ k = grind (arith, nat_tests) in
        let now : has_fired (slice_get (slice_set ns s.nack fired) k) ≡ true = rw (← same) (ap has_fired (get-set_same ns s.nack fired live alive)) in
        rw (f, e, now) (or_true rest)
    at true false e f =
        let same : s.nack ≡ k = grind (arith, nat_tests) in
        let now : has_fired (slice_get (slice_set ns s.nack held) k) ≡ false = rw (← same) (ap has_fired (get-set_same ns s.nack held live alive)) in
        let before : has_fired (slice_get ns k) ≡ false = rw (← same) (ap has_fired alive) in
        rw (f, now, before) refl
    at false true e f =
        let differ : s.nack ≢ k = grind (arith, nat_tests) in
        rw (f, e, get-set_other ns s.nack k fired differ) refl
    at false false e f =
        let differ : s.nack ≢ k = grind (arith, nat_tests) in
        rw (f, get-set_other ns s.nack k held differ) refl

-- what a nack that these do not name is after they are set
pub with_each-other : {X : Type 0} (ks : List ℕ) (so : X) (ns : List X) (k : ℕ) → times_named k ks ≡ 0 → slice_get (with_each ks so ns) k ≡ slice_get ns k
with_each-other [] so ns k h = refl
with_each-other (j ∷ ks) so ns k h = at (nat_eq j k) refl (with_each-other ks so (slice_set ns j so) k)
  where
    at : (b : Bool) → nat_eq j k ≡ b → (times_named k ks ≡ 0 → slice_get (with_each ks so (slice_set ns j so)) k ≡ slice_get (slice_set ns j so) k)
        → slice_get (with_each ks so (slice_set ns j so)) k ≡ slice_get ns k
    at true e ih = let one = times-named j k ks e in absurd (omega arith)
    at false e ih =
        let none = times-other j k ks e in
        let differ : j ≢ k = grind (arith, nat_tests) in
        ih (omega arith) ∙ get-set_other ns j k so differ

-- and one that they name, if it is there
pub with_each-named : {X : Type 0} (ks : List ℕ) (so n : X) (ns : List X) (k : ℕ) → 1 ≤ times_named k ks → slice_get ns k ≡ Some n → slice_get (with_each ks so ns) k ≡ Some so
with_each-named [] so n ns k h there = absurd (omega arith)
with_each-named (j ∷ ks) so n ns k h there = at (nat_eq j k) (nat_lt 0 (times_named k ks)) refl refl (λ m. with_each-named ks so m (slice_set ns j so) k)
  where
    at : (b c : Bool) → nat_eq j k ≡ b → nat_lt 0 (times_named k ks) ≡ c
        → ((m : _) → 1 ≤ times_named k ks → slice_get (slice_set ns j so) k ≡ Some m → slice_get (with_each ks so (slice_set ns j so)) k ≡ Some so)
        → slice_get (with_each ks so (slice_set ns j so)) k ≡ Some so
    at true true e f ih =
        let same : j ≡ k = grind (arith, nat_tests) in
        let more : 1 ≤ times_named k ks = grind (arith, nat_tests) in
        ih so more (rw same (get-set_same ns k so n there))
    at true false e f ih =
        let same : j ≡ k = grind (arith, nat_tests) in
        let none : times_named k ks ≡ 0 = grind (arith, nat_tests) in
        with_each-other ks so (slice_set ns j so) k none ∙ rw same (get-set_same ns k so n there)
    at false c e f ih =
        let differ : j ≢ k = grind (arith, nat_tests) in
        let none = times-other j k ks e in
        ih n (omega arith) (get-set_other ns j k so differ ∙ there)

-- a test that all pass, a named one passes
pub named_passes : (p : ℕ → Bool) (ks : List ℕ) (k : ℕ) → list_all p ks ≡ true → 1 ≤ times_named k ks → p k ≡ true
named_passes p [] k h n = absurd (omega arith)
named_passes p (j ∷ ks) k h n = at (nat_eq j k) refl (both (p j) (list_all p ks) h) (named_passes p ks k)
  where
    both : (a b : Bool) → a && b ≡ true → (a ≡ true) × (b ≡ true)
    both true true e = (refl, refl)
    both true false e = cc
    both false b e = cc

    at : (b : Bool) → nat_eq j k ≡ b → (p j ≡ true) × (list_all p ks ≡ true) → (list_all p ks ≡ true → 1 ≤ times_named k ks → p k ≡ true) → p k ≡ true
    at true e two ih = let same : j ≡ k = grind (arith, nat_tests) in rw (← same) two.0
    at false e two ih = let none = times-other j k ks e in ih two.1 (omega arith)

fresh_there : (t : ℕ) (o : Option PlainNack) → is_fresh_for t o ≡ true → o ≡ Some (fresh_of t)
fresh_there t (Some (fresh_of owner)) h = let same : t ≡ owner = grind (arith, nat_tests) in rw same refl
fresh_there t _ h = cc

-- the scopes' nacks can enter: each is fresh and this thread's, and each is named once
pub record CanEnter (t : ℕ) (ks : List ℕ) (ns : List PlainNack) : Type 0 where
  pub fresh : list_all (λ k. is_fresh_for t (slice_get ns k)) ks ≡ true
  pub once : list_all (λ k. nat_eq (times_named k ks) 1) ks ≡ true

pub can_enter_is : (w : PlainWorld) (t : ℕ) (ks : List ℕ) → can_enter w t ks ≡ true → CanEnter t ks w.nacks
can_enter_is w t ks h = let two = both _ _ h in record { fresh = two.0; once = two.1 }
  where
    both : (a b : Bool) → a && b ≡ true → (a ≡ true) × (b ≡ true)
    both true true e = (refl, refl)
    both true false e = cc
    both false b e = cc

named_fresh : (t : ℕ) (ks : List ℕ) (ns : List PlainNack) (k : ℕ) → CanEnter t ks ns → 1 ≤ times_named k ks → slice_get ns k ≡ Some (fresh_of t)
named_fresh t ks ns k h named = fresh_there t (slice_get ns k) (named_passes (λ j. is_fresh_for t (slice_get ns j)) ks k h.fresh named)

named_once : (t : ℕ) (ks : List ℕ) (ns : List PlainNack) (k : ℕ) → CanEnter t ks ns → 1 ≤ times_named k ks → times_named k ks ≡ 1
named_once t ks ns k h named = let e : nat_eq (times_named k ks) 1 ≡ true = named_passes (λ j. nat_eq (times_named j ks) 1) ks k h.once named in grind (arith, nat_tests)

-- the nacks that enter are fresh and named once, so that each is live from then on
pub lives-enter : (t : ℕ) (ks : List ℕ) (ns : List PlainNack) (k : ℕ) → CanEnter t ks ns → lives (slice_get (with_each ks live ns) k) ≡ lives (slice_get ns k) + times_named k ks
lives-enter t ks ns k h = at (nat_lt 0 (times_named k ks)) refl
  where
    at : (c : Bool) → nat_lt 0 (times_named k ks) ≡ c → lives (slice_get (with_each ks live ns) k) ≡ lives (slice_get ns k) + times_named k ks
    at true e =
        let named : 1 ≤ times_named k ks = grind (arith, nat_tests) in
        let there = named_fresh t ks ns k h named in
        let once = named_once t ks ns k h named in
        rw (with_each-named ks live (fresh_of t) ns k named there, there, once) refl
    at false e =
        let none : times_named k ks ≡ 0 = grind (arith, nat_tests) in
        rw (with_each-other ks live ns k none, none) (omega arith)

pub fired-enter : (t : ℕ) (ks : List ℕ) (ns : List PlainNack) (k : ℕ) → CanEnter t ks ns → has_fired (slice_get (with_each ks live ns) k) ≡ has_fired (slice_get ns k)
fired-enter t ks ns k h = at (nat_lt 0 (times_named k ks)) refl
  where
    at : (c : Bool) → nat_lt 0 (times_named k ks) ≡ c → has_fired (slice_get (with_each ks live ns) k) ≡ has_fired (slice_get ns k)
    at true e =
        let named : 1 ≤ times_named k ks = grind (arith, nat_tests) in
        let there = named_fresh t ks ns k h named in
        rw (with_each-named ks live (fresh_of t) ns k named there, there) refl
    at false e =
        let none : times_named k ks ≡ 0 = grind (arith, nat_tests) in
        ap has_fired (with_each-other ks live ns k none)

pub length-with_each : {X : Type 0} (ks : List ℕ) (so : X) (ns : List X) → length (with_each ks so ns) ≡ length ns
length-with_each [] so ns = refl
length-with_each (k ∷ ks) so ns = length-with_each ks so (slice_set ns k so) ∙ length-set ns k so

-- setting at two places, in either order
set-set_other : {X : Type 0} (xs : List X) (i j : ℕ) (x y : X) → i ≢ j → slice_set (slice_set xs i x) j y ≡ slice_set (slice_set xs j y) i x
set-set_other [] i j x y h = refl
set-set_other (z ∷ xs) zero zero x y h = absurd (h refl)
set-set_other (z ∷ xs) zero (suc j) x y h = refl
set-set_other (z ∷ xs) (suc i) zero x y h = refl
set-set_other (z ∷ xs) (suc i) (suc j) x y h = ap (λ l. z ∷ l) (set-set_other xs i j x y (λ e. h (ap suc e)))

-- setting twice at one place
set-set_same : {X : Type 0} (xs : List X) (i : ℕ) (x y : X) → slice_set (slice_set xs i x) i y ≡ slice_set xs i y
set-set_same [] i x y = refl
set-set_same (z ∷ xs) zero x y = refl
set-set_same (z ∷ xs) (suc i) x y = ap (λ l. z ∷ l) (set-set_same xs i x y)

-- a nack that these do not name may be set before them or after them
with_each-set : (ks : List ℕ) (so x : PlainNack) (ns : List PlainNack) (j : ℕ) → times_named j ks ≡ 0 → with_each ks so (slice_set ns j x) ≡ slice_set (with_each ks so ns) j x
with_each-set [] so x ns j h = refl
with_each-set (k ∷ ks) so x ns j h = at (nat_eq k j) refl (with_each-set ks so x (slice_set ns k so) j)
  where
    at : (b : Bool) → nat_eq k j ≡ b → (times_named j ks ≡ 0 → with_each ks so (slice_set (slice_set ns k so) j x) ≡ slice_set (with_each ks so (slice_set ns k so)) j x)
        → with_each ks so (slice_set (slice_set ns j x) k so) ≡ slice_set (with_each ks so (slice_set ns k so)) j x
    at true e ih = let one = times-named k j ks e in absurd (omega arith)
    at false e ih =
        let none = times-other k j ks e in
        let differ : j ≢ k = grind (arith, nat_tests) in
        ap (with_each ks so) (set-set_other ns j k x so differ) ∙ ih (omega arith)

-- one after another is all held, and then those of the branches in which the leaf does not lie fired
pub settled_is : (n : ℕ) (ss : List PlainScope) (ns : List PlainNack) → AreLiveNacks (nacks_of ss) ns
    → settled_in_turn n ss ns ≡ with_each (nacks_of (filter (lies_outside n) ss)) fired (with_each (nacks_of ss) held ns)
settled_is n [] ns h = refl
settled_is n (s ∷ ss) ns h =
    settled_is n ss (slice_set ns s.nack (settled_one n s)) (rest_live s.nack (nacks_of ss) ns (settled_one n s) (settled_one-dead n s) h) ∙ at (lies_outside n s) refl
  where
    lost : List ℕ
    lost = nacks_of (filter (lies_outside n) ss)

    none : times_named s.nack (nacks_of ss) ≡ 0
    none =
        let all = h.each s.nack in
        let most = lives-le (slice_get ns s.nack) in
        let one : nat_eq s.nack s.nack ≡ true = grind (arith, nat_tests) in
        let once = times-named s.nack s.nack (nacks_of ss) one in
        omega arith

    at : (b : Bool) → lies_outside n s ≡ b → with_each lost fired (with_each (nacks_of ss) held (slice_set ns s.nack (cond (lies_outside n s) fired held)))
        ≡ with_each (nacks_of (cond (lies_outside n s) (s ∷ filter (lies_outside n) ss) (filter (lies_outside n) ss))) fired (with_each (nacks_of ss) held (slice_set ns s.nack held))
    at true e =
        let first : with_each (nacks_of ss) held (slice_set ns s.nack fired) ≡ slice_set (with_each (nacks_of ss) held ns) s.nack fired = with_each-set (nacks_of ss) held fired ns s.nack none in
        let second : slice_set (with_each (nacks_of ss) held (slice_set ns s.nack held)) s.nack fired ≡ slice_set (with_each (nacks_of ss) held ns) s.nack fired =
        ap (λ l. slice_set l s.nack fired) (with_each-set (nacks_of ss) held held ns s.nack none) ∙ set-set_same (with_each (nacks_of ss) held ns) s.nack held fired in
        rw e (ap (with_each lost fired) (first ∙ sym second))
    at false e = rw e refl

pub lives-settled_group : (n : ℕ) (g : PlainGroup) (ns : List PlainNack) (k : ℕ) → AreLiveNacks (nacks_of (scopes g)) ns
    → lives (slice_get (settled n g ns) k) + times_named k (nacks_of (scopes g)) ≡ lives (slice_get ns k)
lives-settled_group n g ns k h = ap (λ l. lives (slice_get l k) + times_named k (nacks_of (scopes g))) (sym (settled_is n (scopes g) ns h)) ∙ lives-settled n (scopes g) ns k h

pub fired-settled_group : (n : ℕ) (g : PlainGroup) (ns : List PlainNack) (k : ℕ) → AreLiveNacks (nacks_of (scopes g)) ns
    → has_fired (slice_get (settled n g ns) k) ≡ list_any (λ j. nat_eq j k) (nacks_of (filter (lies_outside n) (scopes g))) || has_fired (slice_get ns k)
fired-settled_group n g ns k h = ap (λ l. has_fired (slice_get l k)) (sym (settled_is n (scopes g) ns h)) ∙ fired-settled n (scopes g) ns k h

pub length-settled_group : (n : ℕ) (g : PlainGroup) (ns : List PlainNack) → length (settled n g ns) ≡ length ns
length-settled_group n g ns = length-with_each (nacks_of (filter (lies_outside n) (scopes g))) fired (with_each (nacks_of (scopes g)) held ns) ∙ length-with_each (nacks_of (scopes g)) held ns

-- the nacks that can enter are fresh
pub can_enter_fresh : (t : ℕ) (ks : List ℕ) (ns : List PlainNack) → CanEnter t ks ns → AreFresh ks ns
can_enter_fresh t ks ns h = record {
  once = λ k. once k (nat_lt 0 (times_named k ks)) refl;
  each = λ k n. rw (named_fresh t ks ns k h n) refl;
}
  where
    once : (k : ℕ) (b : Bool) → nat_lt 0 (times_named k ks) ≡ b → times_named k ks ≤ 1
    once k true e = let named : 1 ≤ times_named k ks = grind (arith, nat_tests) in let one = named_once t ks ns k h named in omega arith
    once k false e = grind (arith, nat_tests)

-- the others are fresh still, once the first has entered
pub rest_fresh : (k : ℕ) (ks : List ℕ) (ns : List PlainNack) (n : PlainNack) → AreFresh (k ∷ ks) ns → AreFresh ks (slice_set ns k n)
rest_fresh k ks ns n h = record { once = λ j. once j (nat_eq k j) refl; each = λ j m. each j m (nat_eq k j) refl }
  where
    once : (j : ℕ) (b : Bool) → nat_eq k j ≡ b → times_named j ks ≤ 1
    once j true e = let a = times-named k j ks e in let all = h.once j in omega arith
    once j false e = let a = times-other k j ks e in let all = h.once j in omega arith

    each : (j : ℕ) → 1 ≤ times_named j ks → (b : Bool) → nat_eq k j ≡ b → is_fresh (slice_get (slice_set ns k n) j) ≡ true
    each j m true e = let a = times-named k j ks e in let all = h.once j in absurd (omega arith)
    each j m false e =
        let a = times-other k j ks e in
        let differ : k ≢ j = grind (arith, nat_tests) in
        ap is_fresh (get-set_other ns k j n differ) ∙ h.each j (omega arith)

-- what a cell tells of its nack says which state it is in
pub fresh_told : (n : PlainNack) (t : Tid) → owner_of n ≡ Some t → n ≡ fresh_of t.0
fresh_told (fresh_of owner) t h = cc
fresh_told live t h = cc
fresh_told fired t h = cc
fresh_told held t h = cc

pub live_told : (n : PlainNack) → is_live_nack n ≡ true → n ≡ live
live_told (fresh_of owner) h = cc
live_told live h = refl
live_told fired h = cc
live_told held h = cc

pub fired_told : (n : PlainNack) → is_fired n ≡ true → n ≡ fired
fired_told (fresh_of owner) h = cc
fired_told live h = cc
fired_told fired h = refl
fired_told held h = cc

pub held_told : (n : PlainNack) → owner_of n ≡ None → is_live_nack n ≡ false → is_fired n ≡ false → n ≡ held
held_told (fresh_of owner) h i j = cc
held_told live h i j = cc
held_told fired h i j = cc
held_told held h i j = refl
