-- Which item an answer names.
use Rattle.std.specs.Prelude.{ℕ, zero, suc, ◌+◌, if◌then◌else◌, List, [], ◌∷◌, drop, Option, Some, None, option_map, slice_get}
use Rattle.std.specs.Option.{option_or}
use Rattle.cml_value.specs.declared.number.Tid.{Tid}
use Rattle.cml_scan.specs.World.{PlainWorld}
use Rattle.cml_scan.specs.Scan.{scan}
use Rattle.cml_scan.specs.declared.meet.Meet.{Meet}
use Rattle.cml_schedule.specs.declared.item.Item.{Item}
use Rattle.cml_schedule.specs.declared.item.Item.TheVariants.{Turn, Meet as Commit, Exchange, Clock}
use Rattle.cml_book.specs.Walks.{is_running}
use Rattle.cml_hub.specs.Runs.{next_alarm}
use Rattle.cml_hub.specs.Playing.{taking}
use Rattle.cml_facts.specs.Whys.{first_running}
use Rattle.cml_stepper.specs.declared.line.Typed.{Typed}
use Rattle.cml_stepper.specs.declared.line.Typed.TheVariants as typed

-- the row of this number in the scan, counted from 1
abbrev pub row_numbered : PlainWorld → ℕ → Option Meet
row_numbered w zero = None
row_numbered w (suc n) = slice_get (scan w) n

-- the thread that had its turn by the item
abbrev pub turn_had : Item → Option Tid
turn_had (Turn t) = Some t
turn_had (Commit row) = None
turn_had (Exchange row) = None
turn_had (Clock tick) = None

-- the thread that had the last turn
abbrev pub last_turned : List Item → Option Tid
last_turned [] = None
last_turned (item ∷ items) = option_or (last_turned items) (turn_had item)

-- the number that comes after that of a thread, if there is one
abbrev pub number_past : Option Tid → ℕ
number_past None = 0
number_past (Some t) = t.0 + 1

-- the thread that is next: the first that runs after the one that had the last turn, by number; where none of those runs, the first that runs
abbrev pub next_ready : PlainWorld → List Item → Option ℕ
next_ready w items =
    let n = number_past (last_turned items) in option_or (first_running n (drop n w.threads)) (first_running 0 w.threads)

abbrev pub turn_of_number : ℕ → Item
turn_of_number t = Turn (record { 0 = t })

-- what an empty line means where no thread runs: the only row; or, where there is none, the next alarm
abbrev pub only_row : PlainWorld → List Meet → Option Item
only_row w [] = option_map Clock (next_alarm w)
only_row w (row ∷ []) = Some (taking w row)
only_row w (row ∷ second ∷ rows) = None

abbrev pub next_named : PlainWorld → Option ℕ → Option Item
next_named w (Some t) = Some (turn_of_number t)
next_named w None = only_row w (scan w)

-- what an empty line means: a turn of the thread that is next, where one runs
abbrev pub next_item : PlainWorld → List Item → Option Item
next_item w items = next_named w (next_ready w items)

-- the item that an answer names, if there is one
abbrev pub item_typed : PlainWorld → List Item → Typed → Option Item
item_typed w items (typed.Row n) = option_map (taking w) (row_numbered w n)
item_typed w items (typed.Turn t) = if is_running w t.0 then Some (Turn t) else None
item_typed w items typed.Next = next_item w items
item_typed w items what = None
