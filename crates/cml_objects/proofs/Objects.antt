-- One object of a list is fed, or gives.
use Rattle.std.proofs.Common.{◌≡◌, ◌<◌, ℕ, zero, suc, List, [], ◌∷◌, ◌++◌, length, get_or, map, Some, Result, Ok, Err, refl, arith, ap}
use Rattle.std.specs.Prelude.{slice_get, slice_set, IsTrue, Bool}
use Rattle.std.proofs.lemmas.List.{length-set}
use Rattle.cml_objects.specs.Feeds.{PlainRefusal, Feeds, IsAccepted}
use Rattle.cml_objects.specs.Registered.{fed_at, put_back, lit_at, KeepsRoom, TouchesOne}
use Rattle.cml_objects.specs.declared.source.FeedFault.{FeedFault}
use Rattle.cml_objects.specs.declared.source.FeedFault.TheVariants.{Put, Full, Spent, Memory}

pub get_there : {X : Type 0} (xs : List X) (i : ℕ) (x : X) → i < length xs → x ≡ get_or xs i x → slice_get xs i ≡ Some x
get_there [] i x h e = absurd (omega arith)
get_there (y ∷ ys) zero x h e = cc
get_there (y ∷ ys) (suc i) x h e = get_there ys i x (omega arith) e

pub get-map : {X Y : Type 0} (f : X → Y) (xs : List X) (i : ℕ) (x : X) → slice_get xs i ≡ Some x → slice_get (map f xs) i ≡ Some (f x)
get-map f [] i x e = cc
get-map f (y ∷ ys) zero x e = cc
get-map f (y ∷ ys) (suc i) x e = get-map f ys i x e

pub map-slice_set : {X Y : Type 0} (f : X → Y) (xs : List X) (i : ℕ) (y : X) → map f (slice_set xs i y) ≡ slice_set (map f xs) i (f y)
map-slice_set f [] i y = refl
map-slice_set f (x ∷ xs) zero y = refl
map-slice_set f (x ∷ xs) (suc i) y = ap (λ r. f x ∷ r) (map-slice_set f xs i y)

pub set_same : {X : Type 0} (xs : List X) (i : ℕ) (x : X) → slice_get xs i ≡ Some x → slice_set xs i x ≡ xs
set_same [] i x e = refl
set_same (y ∷ ys) zero x e = cc
set_same (y ∷ ys) (suc i) x e = ap (λ r. y ∷ r) (set_same ys i x e)

pub get_other : {X : Type 0} (xs : List X) (i j : ℕ) (y : X) → (j ≡ i → ⊥) → slice_get (slice_set xs i y) j ≡ slice_get xs j
get_other [] i j y h = refl
get_other (x ∷ xs) zero zero y h = absurd (h refl)
get_other (x ∷ xs) zero (suc j) y h = refl
get_other (x ∷ xs) (suc i) zero y h = refl
get_other (x ∷ xs) (suc i) (suc j) y h = get_other xs i j y (λ e. h (ap suc e))

pub accepted_at : {S : Type 0} (outcome : Result S PlainRefusal) (states : List S) (id : ℕ) → IsAccepted outcome → IsAccepted (put_back states id outcome)
accepted_at (Ok s) states id h = tt
accepted_at (Err why) states id h = absurd h

-- a list in which one is set has the others as they were
pub touches_one : {X : Type 0} (xs : List X) (i : ℕ) (y : X) → TouchesOne i xs (slice_set xs i y)
touches_one xs i y = record { len = length-set xs i y; others = λ j h. get_other xs i j y h }

pub with_same : {S : Type 0} (states : List S) (id : ℕ) (s t : S) → slice_get states id ≡ Some s → t ≡ s → slice_set states id t ≡ states
with_same states id s t e same = rw same (set_same states id s e)

-- what one object does is what the register does
pub feeds_at : {S F : Type 0} (fed : S → F → Result S PlainRefusal) (states : List S) (id : ℕ) (s t : S) (feed : F)
    (result : Result (Unit {0}) (FeedFault F)) → slice_get states id ≡ Some s → Feeds result (fed s feed) feed s t
    → Feeds result (fed_at fed states id feed) feed states (slice_set states id t)
feeds_at fed states id s t feed (Ok _) e h = rw (e, h) refl
feeds_at fed states id s t feed (Err (Put f)) e h = rw (e, h.0) (refl, with_same states id s t e h.1, h.2)
feeds_at fed states id s t feed (Err (Full f)) e h = rw (e, h.0) (refl, with_same states id s t e h.1, h.2)
feeds_at fed states id s t feed (Err (Spent f)) e h = rw (e, h.0) (refl, with_same states id s t e h.1, h.2)
feeds_at fed states id s t feed (Err (Memory f)) e h = rw e (accepted_at (fed s feed) states id h.0, with_same states id s t e h.1, h.2)

pub get_set_same : {X : Type 0} (xs : List X) (i : ℕ) (y : X) → i < length xs → slice_get (slice_set xs i y) i ≡ Some y
get_set_same [] i y h = absurd (omega arith)
get_set_same (x ∷ xs) zero y h = refl
get_set_same (x ∷ xs) (suc i) y h = get_set_same xs i y (omega arith)

pub lit_bound : {X S : Type 0} (f : X → S) (is_lit : S → Bool) (xs : List X) (i : ℕ) → IsTrue (lit_at is_lit (map f xs) i) → i < length xs
lit_bound f is_lit [] i h = cc
lit_bound f is_lit (x ∷ xs) zero h = omega arith
lit_bound f is_lit (x ∷ xs) (suc i) h = (let k : i < length xs = lit_bound f is_lit xs i h in omega arith)

-- one object is written over: where it has room again, the room of all stays
pub room_after : {K : Type 0} (has_room : K → Bool) (xs : List K) (i : ℕ) (x y : K) → slice_get xs i ≡ Some x → (IsTrue (has_room x) → IsTrue (has_room y)) → KeepsRoom has_room xs (slice_set xs i y)
room_after has_room [] i x y e kept j h = h
room_after has_room (z ∷ zs) zero x y e kept zero h = (let same : z ≡ x = cc in kept (rw same at h))
room_after has_room (z ∷ zs) zero x y e kept (suc j) h = h
room_after has_room (z ∷ zs) (suc i) x y e kept zero h = h
room_after has_room (z ∷ zs) (suc i) x y e kept (suc j) h = room_after has_room zs i x y e kept j h
