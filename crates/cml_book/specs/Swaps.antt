-- Which rows are exchanges over a swap channel.
use Rattle.std.specs.Prelude.{Bool, true, false, ◌&&◌}
use Rattle.cml_value.specs.Value.{PlainBase, swap}
use Rattle.cml_scan.specs.World.{PlainWorld}
use Rattle.cml_scan.specs.Scan.{scan, has_row}
use Rattle.cml_scan.specs.declared.meet.Meet.{Meet}
use Rattle.cml_scan.specs.declared.meet.Meet.TheVariants.{Single, Pair}
use Rattle.cml_book.specs.Commit.{base_awaited}

-- the base event is a swap
abbrev pub is_swap : PlainBase → Bool
is_swap (swap s v) = true
is_swap _ = false

-- the row is a pair, and both its leaves are swaps
abbrev pub are_swaps : PlainWorld → Meet → Bool
are_swaps w (Single t n) = false
are_swaps w (Pair h i o j) = is_swap (base_awaited w h.0 i) && is_swap (base_awaited w o.0 j)

-- The row is in the table, and it is such a pair.
abbrev pub swaps : PlainWorld → Meet → Bool
swaps w row = has_row (scan w) row && are_swaps w row
