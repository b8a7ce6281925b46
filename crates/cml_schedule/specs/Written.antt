-- A schedule as it is written, in version 2: a head, a line for each item, and `end`.
use Rattle.std.specs.Prelude.{ℕ, List, ◌++◌, codes}
use Rattle.std.specs.List.{flat_map}
use Rattle.cml_text.specs.Lines.{line}
use Rattle.cml_scan.specs.Numbers.{spaced, numbers_of}
use Rattle.cml_scan.specs.declared.meet.Meet.{Meet}
use Rattle.cml_check.specs.declared.size.Size.{Size}
use Rattle.cml_schedule.specs.declared.item.Item.{Item}
use Rattle.cml_schedule.specs.declared.item.Item.TheVariants as item

-- the budget, and how many functions and statements the program has
abbrev pub head_line : ℕ → Size → List ℕ
head_line budget size = line (codes "schedule 2" ++ spaced budget ++ spaced size.functions ++ spaced size.statements)

-- a row after its keyword
abbrev pub taken_row_line : List ℕ → Meet → List ℕ
taken_row_line word row = line (word ++ numbers_of row)

-- a turn of a thread, a row that is committed, an exchange over a swap channel, or the tick to which the time moves
abbrev pub item_line : Item → List ℕ
item_line (item.Turn t) = line (codes "turn" ++ spaced t.0)
item_line (item.Meet row) = taken_row_line (codes "commit") row
item_line (item.Exchange row) = taken_row_line (codes "swap") row
item_line (item.Clock tick) = line (codes "clock" ++ spaced tick)

abbrev pub schedule_text : ℕ → Size → List Item → List ℕ
schedule_text budget size items = head_line budget size ++ flat_map item_line items ++ line (codes "end")
