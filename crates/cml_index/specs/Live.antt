-- The objects on which two offers may meet.
use Rattle.std.specs.Prelude.{ℕ, ◌≡◌, ◌<◌, Bool, true, false, ◌&&◌, ◌||◌, nat_lt, List, ◌++◌, Option, length, map}
use Rattle.std.specs.List.{list_any, sum_by}
use Rattle.cml_objects.specs.Pairings.{one_lane}
use Rattle.cml_objects.specs.declared.pairing.PairedKind.{PairedKind}
use Rattle.cml_objects.specs.declared.pairing.PairedKind.TheVariants.{Channel, Swap}
use Rattle.cml_objects.specs.declared.pairing.PairedId.{PairedId}
use Rattle.cml_index.specs.declared.slot.Slot.{Slot}
use Rattle.cml_index.specs.declared.slot.Slot.TheVariants.{Side}
use Rattle.cml_index.specs.declared.lanes.Lanes.{Lanes}
use Rattle.cml_index.specs.declared.live.Live.{Live}
use Rattle.cml_index.specs.Numbers.{PlainNumbers, has}
use Rattle.cml_index.specs.HeadCounts.{head_count_of}
use Rattle.cml_index.specs.Slots.{lane_at, is_slot}

-- Whether, of this many offers that can stand first on an object and this many others there, two could meet, threads aside. Where all
-- sides are alike, two that can stand first are enough.
abbrev pub may_meet : Bool → ℕ → ℕ → Bool
may_meet true heads others = nat_lt 1 heads
may_meet false heads others = nat_lt 0 heads && nat_lt 0 others

-- two offers on the object may meet
abbrev pub is_live : Lanes → PairedId → Bool
is_live lanes n = may_meet (one_lane n.kind) (length (lane_at lanes (Side true n))) (length (lane_at lanes (Side false n)))

-- the slot, if there is one, is a side of the object
abbrev pub has_side : PairedId → Option Slot → Bool
has_side n s = is_slot (Side true n) s || is_slot (Side false n) s

-- one of these leaves stands on a side of the object
abbrev pub have_side : PairedId → List (Option Slot) → Bool
have_side n ss = list_any (has_side n) ss

-- the numbers that are kept of the objects of the kind
abbrev pub kind_numbers : Live → PairedKind → PlainNumbers
kind_numbers live Channel = record { items = live.channels.items; size = live.channels.size }
kind_numbers live Swap = live.swaps

abbrev pub kept_numbers : Live → PairedId → PlainNumbers
kept_numbers live n = kind_numbers live n.kind

-- the object is kept as live
abbrev pub is_in : Live → PairedId → Bool
is_in live n = has (kept_numbers live n) n.number

-- the object has a place, so that it can be put in without memory
abbrev pub HasPlace : Live → PairedId → Type 0
HasPlace live n = n.number < (kept_numbers live n).size

-- the objects that are kept
abbrev pub objects : Live → List PairedId
objects live = map (λ n. record { kind = Channel; number = n }) live.channels.items ++ map (λ n. record { kind = Swap; number = n }) live.swaps.items

-- how many offers can stand first on an object
abbrev pub heads_at : Lanes → PairedId → ℕ
heads_at lanes n = length (lane_at lanes (Side true n))

-- how many that were kept as the count of an object; of swap channels none is kept
abbrev pub kind_count : Live → PairedKind → ℕ → ℕ
kind_count live Channel number = head_count_of live.channels number
kind_count live Swap number = 0

abbrev pub count_at : Live → PairedId → ℕ
count_at live n = kind_count live n.kind n.number

-- the sum of the counts that are kept
abbrev pub kept_heads : Live → ℕ
kept_heads live = sum_by (head_count_of live.channels) live.channels.items

-- of a channel that is kept as live the count is right
abbrev pub HasItsCount : Lanes → Live → PairedId → Type 0
HasItsCount lanes live n = is_in live n ≡ true → one_lane n.kind ≡ false → count_at live n ≡ heads_at lanes n

abbrev pub AreCounted : Lanes → Live → Type 0
AreCounted lanes live = (n : PairedId) → HasItsCount lanes live n

-- the same objects are kept, with the same counts, and none lost its place
pub record IsAsLive (old new : Live) : Type 0 where
  pub same : objects new ≡ objects old
  pub places : (n : PairedId) → HasPlace old n → HasPlace new n
  pub here : (n : PairedId) → is_in new n ≡ is_in old n
  pub counts : (n : PairedId) → count_at new n ≡ count_at old n

-- these are the objects on which two offers may meet
abbrev pub AreLive : Lanes → Live → Type 0
AreLive lanes live = (n : PairedId) → is_in live n ≡ is_live lanes n
