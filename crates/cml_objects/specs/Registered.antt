-- The objects of a register by their numbers, and the leaves that wait for them.
use Rattle.std.specs.Prelude.{◌≡◌, ◌≢◌, ◌<◌, ◌≤◌, ◌+◌, ℕ, ◌⊎◌, ◌↔◌, List, length, Bool, false, Option, IfSome, IsNone, Result, Ok, Err, OnErr, IsTrue, slice_get, slice_set, Contains}
use Rattle.std.specs.Option.{option_map_or}
use Rattle.cml_value.specs.declared.number.Tid.{Tid}
use Rattle.cml_objects.specs.Feeds.{PlainRefusal}

-- a leaf of a thread that waits for an object: the thread and the number of the leaf, and then the number of the object
abbrev pub WaitingLeaf : Type 0
WaitingLeaf = (ℕ × ℕ) × ℕ

-- the objects by their numbers, and who waits for them; `room` more objects can be made without memory
pub record Registered (K : Type 0) : Type 0 where
  pub objects : List K
  pub waits : List WaitingLeaf
  pub room : ℕ

-- there is an object of this number, and it is lit
abbrev pub lit_at : {S : Type 0} → (S → Bool) → List S → ℕ → Bool
lit_at is_lit states id = option_map_or is_lit (slice_get states id) false

-- the states where the object of this number took what it was fed, or why it did not
abbrev pub put_back : {S : Type 0} → List S → ℕ → Result S PlainRefusal → Result (List S) PlainRefusal
put_back states id (Ok s) = Ok (slice_set states id s)
put_back states id (Err why) = Err why

-- the states after the object of this number is fed, or why it is not
abbrev pub fed_at : {S F : Type 0} → (S → F → Result S PlainRefusal) → List S → ℕ → F → Result (List S) PlainRefusal
fed_at fed states id feed = option_map_or (λ s. put_back states id (fed s feed)) (slice_get states id) (Ok states)

-- the states after the object of this number gave
abbrev pub given_at : {S : Type 0} → (S → S) → List S → ℕ → List S
given_at after states id = option_map_or (λ s. slice_set states id (after s)) (slice_get states id) states

-- there is an object of this number, and its next feed takes no memory
abbrev pub HasRoomAt : {K : Type 0} → (K → Bool) → List K → ℕ → Type 0
HasRoomAt has_room objects id = IsTrue (option_map_or has_room (slice_get objects id) false)

-- each object whose next feed took no memory before still takes none
abbrev pub KeepsRoom : {K : Type 0} → (K → Bool) → List K → List K → Type 0
KeepsRoom has_room old new = (j : ℕ) → HasRoomAt has_room old j → HasRoomAt has_room new j

-- no other object is touched
abbrev pub KeepsOthers : {K : Type 0} → List K → List K → ℕ → Type 0
KeepsOthers old new id = (j : ℕ) → j ≢ id → slice_get new j ≡ slice_get old j

-- of these objects no other than this one is touched, and there are as many as before
pub record TouchesOne {K : Type 0} (id : ℕ) (old new : List K) : Type 0 where
  pub len : length new ≡ length old
  pub others : KeepsOthers old new id

-- in a register no other object than this one is touched, there are as many as before, and the same leaves wait
pub record ChangesOne {K : Type 0} (id : ℕ) (old new : Registered K) : Type 0 where
  pub len : length new.objects ≡ length old.objects
  pub others : KeepsOthers old.objects new.objects id
  pub waits : new.waits ≡ old.waits

-- What `make` leaves as it was: who waits; the room of a further `make`, but for one where it succeeds; the room of each feed.
pub record MakeKeeps {K E : Type 0} (has_room : K → Bool) (result : Result ℕ E) (old new : Registered K) : Type 0 where
  pub waits : new.waits ≡ old.waits
  pub make : old.room ≤ new.room + 1
  pub make_err : OnErr result (old.room ≤ new.room)
  pub feed : KeepsRoom has_room old.objects new.objects

-- What `room` leaves as it was: the other objects, where it is for a feed of this one, and all objects, where it is for a `make`; who
-- waits; and what room there was.
pub record RoomKeeps {K : Type 0} (has_room : K → Bool) (id : Option ℕ) (old new : Registered K) : Type 0 where
  pub others : IfSome id (KeepsOthers old.objects new.objects)
  pub objects : IsNone id → new.objects ≡ old.objects
  pub waits : new.waits ≡ old.waits
  pub make : old.room ≤ new.room
  pub feed : KeepsRoom has_room old.objects new.objects

-- this wait is added to the others
abbrev pub AddsWait : WaitingLeaf → List WaitingLeaf → List WaitingLeaf → Type 0
AddsWait wait old new = (other : WaitingLeaf) → Contains new other ↔ ((other ≡ wait) ⊎ Contains old other)

-- this wait goes, and no other
unfoldable pub RemovesWait : WaitingLeaf → List WaitingLeaf → List WaitingLeaf → Type 0
RemovesWait wait old new = (other : WaitingLeaf) → Contains new other ↔ ((other ≢ wait) × Contains old other)

-- the leaf waits for an object that is lit
abbrev pub WaitsForLit : (ℕ → Bool) → List WaitingLeaf → Tid × ℕ → Type 0
WaitsForLit lit waits leaf = (id : ℕ) × IsTrue (lit id) × Contains waits ((leaf.0.0, leaf.1), id)

-- by thread, and then by the number of the leaf
abbrev pub ComesBefore : Tid × ℕ → Tid × ℕ → Type 0
ComesBefore a b = (a.0.0 < b.0.0) ⊎ ((a.0.0 ≡ b.0.0) × (a.1 < b.1))
