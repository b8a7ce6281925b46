-- Which threads take part.
use Rattle.std.specs.Prelude.{ℕ, ◌==◌, Bool, true, false, ◌||◌, List, Option, Some, None, unwrap_or, slice_get, nat_le}
use Rattle.std.specs.List.{list_any}
use Rattle.cml_scan.specs.declared.meet.Meet.{Meet}
use Rattle.cml_scan.specs.declared.meet.Meet.TheVariants.{Single, Pair}
use Rattle.cml_schedule.specs.declared.item.Item.{Item}
use Rattle.cml_schedule.specs.declared.item.Item.TheVariants as item

-- the row is of this thread
abbrev pub is_of_row : Meet → ℕ → Bool
is_of_row (Single t n) u = t.0 == u
is_of_row (Pair h i o j) u = (h.0 == u) || (o.0 == u)

-- the item is of this thread
abbrev pub is_of_item : ℕ → Item → Bool
is_of_item u (item.Turn t) = t.0 == u
is_of_item u (item.Meet row) = is_of_row row u
is_of_item u (item.Exchange row) = is_of_row row u
is_of_item u (item.Clock tick) = false

-- one of these items is of the thread
abbrev pub acts : List Item → ℕ → Bool
acts items t = list_any (is_of_item t) items

-- a thread takes part: one of these items is of it, or it is none of those that were there before
abbrev pub takes_part : ℕ → List Item → ℕ → Bool
takes_part before items t = nat_le before t || acts items t

-- the flag of a thread, which is not set where there is none
abbrev pub flag_at : List Bool → ℕ → Bool
flag_at flags t = unwrap_or (slice_get flags t) false

-- a flag that is set where this is true, and else stays as it was
abbrev pub flag_or : Bool → Option Bool → Option Bool
flag_or true None = None
flag_or true (Some was) = Some true
flag_or false flag = flag
