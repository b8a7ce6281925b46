-- Where the lanes are kept: by the numbers of what they stand on.
use Rattle.std.specs.Prelude.{ℕ, ◌≡◌, ◌==◌, ◌≤◌, ◌<◌, ◌+◌, ◌^◌, nat_lt, Bool, true, false, if◌then◌else◌, is_some, List, [], ◌∷◌, ◌++◌, length, filter, Option, Result, OnOk, OnErr, Vec, slice_get}
use Rattle.std.specs.declared.alloc.Global.{Global}
use Rattle.std.specs.Borrow.{Lends, MutBor, Fml}
use Rattle.std.specs.Option.{option_map_or}
use Rattle.indexmap.specs.IndexMap.{get}
use Rattle.cml_value.specs.declared.number.Tid.{Tid}
use Rattle.cml_scan.specs.declared.meet.Place.{Place}
use Rattle.cml_scan.specs.declared.object.Light.{Light}
use Rattle.cml_scan.specs.declared.object.Light.TheVariants as of
use Rattle.cml_scan.specs.Order.{Every, Ascends}
use Rattle.cml_objects.specs.Lanes.{PlainLane, with_run, others, is_own, is_others}
use Rattle.cml_objects.specs.declared.pairing.PairedKind.{PairedKind}
use Rattle.cml_objects.specs.declared.pairing.PairedKind.TheVariants.{Channel, Swap}
use Rattle.cml_index.specs.declared.slot.Slot.{Slot}
use Rattle.cml_index.specs.declared.slot.Slot.TheVariants.{Side, Waiters}
use Rattle.cml_index.specs.declared.slot.LaneKind.{LaneKind}
use Rattle.cml_index.specs.declared.slot.LaneKind.TheVariants.{Senders, Receivers, Swappers, Swapped, IVars, MVars, Mailboxes, Ports, Joins, Nacks}
use Rattle.cml_index.specs.declared.slot.Spot.{Spot}
use Rattle.cml_index.specs.declared.slot.Spot.TheVariants.{Listed, Tick}
use Rattle.cml_index.specs.declared.stand.LaneState.{LaneState}
use Rattle.cml_index.specs.declared.lanes.Lanes.{Lanes}
use Rattle.cml_index.specs.contracts.lanes.Lanes.{the_row}
use Rattle.cml_index.specs.contracts.stand.LaneState.{the_row as stand_row}
use Rattle.std.specs.contracts.vec.Vec as vec
use Rattle.std.specs.contracts.alloc.Global as global
use Rattle.std.specs.contracts.impls.GlobalAllocator.TheImpl.{ghosts}

-- the lane with these leaves of the thread, if there are any
abbrev pub joined : Tid → List ℕ → List Place → List Place
joined tid [] ps = ps
joined tid (l ∷ ls) ps = with_run tid (l ∷ ls) ps

-- the lane without the thread, if this many of its leaves go
abbrev pub after_going : Tid → ℕ → List Place → List Place
after_going tid going ps = if nat_lt 0 going then others tid ps else ps

-- What stands at a place where a stand was made or not: the offers, the leaves that are to come, how many are to go, and the room.
abbrev pub places_in : Option LaneState → List Place
places_in s = option_map_or (λ s. s.lane.places) s []

abbrev pub late_in : Option LaneState → List ℕ
late_in s = option_map_or (λ s. s.late.items) s []

abbrev pub going_in : Option LaneState → ℕ
going_in s = option_map_or (λ s. s.going) s 0

abbrev pub room_in : Option LaneState → ℕ
room_in s = option_map_or (λ s. s.lane.room) s 0

-- the offers in a lane, if there is one
abbrev pub of_lane : Option PlainLane → List Place
of_lane l = option_map_or (λ l. l.places) l []

-- the same offers stand there, and the same leaves are to come and to go; and there is no less room
pub record IsAlike (new old : Option LaneState) : Type 0 where
  pub places : places_in new ≡ places_in old
  pub late : late_in new ≡ late_in old
  pub going : going_in new ≡ going_in old
  pub room : room_in old ≤ room_in new

-- the same offers stand there, and the same leaves are to come and to go
pub record IsLike (new old : Option LaneState) : Type 0 where
  pub places : places_in new ≡ places_in old
  pub late : late_in new ≡ late_in old
  pub going : going_in new ≡ going_in old

-- nobody stands there, or is to come or to go
pub record IsEmpty (s : Option LaneState) : Type 0 where
  pub places : places_in s ≡ []
  pub late : late_in s ≡ []
  pub going : going_in s ≡ 0

-- the leaf is to come, and there is room for all that are
pub record IsNoted {A E : Type 0} (result : Result A E) (leaf : ℕ) (old new : Option LaneState) : Type 0 where
  pub places : places_in new ≡ places_in old
  pub going : going_in new ≡ going_in old
  pub kept : room_in old ≤ room_in new
  pub late : OnOk result (late_in new ≡ late_in old ++ leaf ∷ [])
  pub room : OnOk result (length (late_in new) ≤ room_in new)
  pub none : OnErr result (late_in new ≡ late_in old)

-- the leaves that are to come can: they ascend, there is room for them, and no other of the thread is there
pub record CanCome (tid : Tid) (s : Option LaneState) : Type 0 where
  pub room : length (late_in s) ≤ room_in s
  pub new : 0 < length (late_in s) → Every (is_others tid) (places_in s)
  pub ascend : Ascends nat_lt (late_in s)

pub record HasCome (tid : Tid) (old new : Option LaneState) : Type 0 where
  pub places : places_in new ≡ joined tid (late_in old) (places_in old)
  pub late : late_in new ≡ []
  pub going : going_in new ≡ going_in old

-- if any leaf is to come, the lane has fewer offers than two to the power of this number of binary digits
abbrev pub ComesWithin : ℕ → Option LaneState → Type 0
ComesWithin digits s = 0 < length (late_in s) → length (places_in s) < 2 ^ digits

-- the same, if any is to go
abbrev pub GoesWithin : ℕ → Option LaneState → Type 0
GoesWithin digits s = 0 < going_in s → length (places_in s) < 2 ^ digits

-- the only leaf of the thread has come, or no offer is there that was not; the same leaves are to come and to go
pub record ComesLone {A E : Type 0} (result : Result A E) (tid : Tid) (old new : Option LaneState) : Type 0 where
  pub places : OnOk result (places_in new ≡ with_run tid (0 ∷ []) (places_in old))
  pub none : OnErr result (places_in new ≡ places_in old)
  pub late : late_in new ≡ late_in old
  pub going : going_in new ≡ going_in old

-- the only leaf of the thread has gone, and there is no less room
pub record GoesLone (tid : Tid) (old new : Option LaneState) : Type 0 where
  pub places : places_in new ≡ others tid (places_in old)
  pub late : late_in new ≡ late_in old
  pub going : going_in new ≡ going_in old
  pub room : room_in old ≤ room_in new

pub record HasForgone (old new : Option LaneState) : Type 0 where
  pub places : places_in new ≡ places_in old
  pub late : late_in new ≡ []
  pub going : going_in new ≡ going_in old
  pub room : room_in new ≡ room_in old

-- one more is to go, if the stand was made
pub record CountsOneMore (old new : Option LaneState) : Type 0 where
  pub places : places_in new ≡ places_in old
  pub late : late_in new ≡ late_in old
  pub made : is_some new ≡ is_some old
  pub going : going_in new ≡ (if is_some old then going_in old + 1 else 0)
  pub room : room_in new ≡ room_in old

-- the leaves that are to go, if there are any, are all of the thread
abbrev pub CanGo : Tid → Option LaneState → Type 0
CanGo tid s = 0 < going_in s → going_in s ≡ length (filter (is_own tid) (places_in s))

pub record HasGone (tid : Tid) (old new : Option LaneState) : Type 0 where
  pub places : places_in new ≡ after_going tid (going_in old) (places_in old)
  pub late : late_in new ≡ late_in old
  pub going : going_in new ≡ 0
  pub room : room_in old ≤ room_in new

-- where the lane of a slot is kept
abbrev pub side_row : PairedKind → Bool → LaneKind
side_row Channel true = Senders
side_row Channel false = Receivers
side_row Swap true = Swappers
side_row Swap false = Swapped

abbrev pub light_spot : Light → Spot
light_spot (of.IVar i) = Listed IVars i.0
light_spot (of.MVar m) = Listed MVars m.0
light_spot (of.Mbox b) = Listed Mailboxes b.0
light_spot (of.Port p) = Listed Ports p.0
light_spot (of.Joined t) = Listed Joins t.0
light_spot (of.Nack k) = Listed Nacks k.0
light_spot (of.Alarm t) = Tick t

abbrev pub spot_of : Slot → Spot
spot_of (Side heads object) = Listed (side_row object.kind heads) object.number
spot_of (Waiters l) = light_spot l

-- the lanes of one kind
abbrev pub lanes_in : Lanes → LaneKind → Vec LaneState Global
lanes_in x Senders = x.senders
lanes_in x Receivers = x.receivers
lanes_in x Swappers = x.swappers
lanes_in x Swapped = x.swapped
lanes_in x IVars = x.ivars
lanes_in x MVars = x.mvars
lanes_in x Mailboxes = x.mailboxes
lanes_in x Ports = x.ports
lanes_in x Joins = x.joins
lanes_in x Nacks = x.nacks

abbrev pub with_row : Lanes → LaneKind → Vec LaneState Global → Lanes
with_row x Senders v = record x { senders = v }
with_row x Receivers v = record x { receivers = v }
with_row x Swappers v = record x { swappers = v }
with_row x Swapped v = record x { swapped = v }
with_row x IVars v = record x { ivars = v }
with_row x MVars v = record x { mvars = v }
with_row x Mailboxes v = record x { mailboxes = v }
with_row x Ports v = record x { ports = v }
with_row x Joins v = record x { joins = v }
with_row x Nacks v = record x { nacks = v }

-- the lanes of one kind are lent
abbrev pub LendsRow : MutBor Lanes → LaneKind → MutBor (Vec LaneState Global) → Fml
LendsRow s row r = Lends the_row (vec.the_row stand_row global.the_row ghosts) s r (with_row s.now row)

-- what is kept at a spot, if it was made
abbrev pub stand_in : Lanes → Spot → Option LaneState
stand_in x (Listed row number) = slice_get (lanes_in x row).items number
stand_in x (Tick tick) = get (λ a b. a == b) x.ticks tick

abbrev pub stand_at : Lanes → Slot → Option LaneState
stand_at x k = stand_in x (spot_of k)
