-- The sides of a swap channel: as a base event a rule of this project's own. Any two swaps on one swap channel communicate, and each is
-- given the other's value.
use Rattle.std.specs.Prelude.{ℕ, ◌==◌, Bool, true, Option, Some, None}
use Rattle.cml_value.specs.Value.{PlainValue, PlainBase, swap}
use Rattle.cml_objects.specs.declared.swap.SwapSide.{SwapSide}

-- the number of the swap channel
abbrev pub channel_of : SwapSide → ℕ
channel_of s = s.on.0

-- each of the two could stand first
abbrev pub can_stand_first : SwapSide → Bool
can_stand_first s = true

-- each hands over its value
abbrev pub handed_by : SwapSide → PlainValue
handed_by s = s.value

-- two swaps meet where they are on one swap channel
abbrev pub meet : SwapSide → SwapSide → Bool
meet s t = s.on.0 == t.on.0

-- the side that a base event is: a swap; any other base event is no side of a swap channel
abbrev pub side_in : PlainBase → Option SwapSide
side_in (swap s v) = Some (record { on = record { 0 = s }; value = v })
side_in _ = None
