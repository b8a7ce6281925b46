-- The run of a program in which it is drawn by lot what happens next, by the picks of a chooser.
use Rattle.std.specs.Prelude.{ℕ, suc, ◌+◌, ◌==◌, if◌then◌else◌, List, [], ◌∷◌, ◌++◌, length, Option, Some, None, option_map, slice_get}
use Rattle.cml_value.specs.declared.number.Tid.{Tid}
use Rattle.cml_scan.specs.World.{PlainThread, running, pending_on, ended, PlainWorld}
use Rattle.cml_scan.specs.Scan.{scan}
use Rattle.cml_scan.specs.declared.meet.Meet.{Meet}
use Rattle.cml_schedule.specs.declared.item.Item.{Item}
use Rattle.cml_schedule.specs.declared.item.Item.TheVariants.{Turn, Clock}
use Rattle.cml_hub.specs.Runs.{next_alarm, is_empty}
use Rattle.cml_hub.specs.Playing.{Rules, picked, spent, taking}
use Rattle.cml_explore.specs.Draws.{Way}

-- the thread of this number, if it runs
abbrev pub ready_of : ℕ → PlainThread → List Tid
ready_of n running = record { 0 = n } ∷ []
ready_of n (pending_on g) = []
ready_of n ended = []

-- those of these threads that run, by number; the first of them has this number
abbrev pub ready_from : ℕ → List PlainThread → List Tid
ready_from n [] = []
ready_from n (t ∷ ts) = ready_of n t ++ ready_from (suc n) ts

-- that a row is taken is one thing more that can happen, where one can be
abbrev pub row_choices : List Meet → ℕ
row_choices rows = if is_empty rows then 0 else 1

-- a row is taken, which the chooser picks as in every run
abbrev pub row_by_lot : {C : Type 0} → Rules C → PlainWorld → C → Option Meet → Option Item × C
row_by_lot rules w chooser row = (option_map (taking w) row, spent rules chooser row)

-- The thread on which the lot fell has its turn; or, where it fell on none, a row is taken.
abbrev pub item_by_lot : {C : Type 0} → Rules C → PlainWorld → C → Option Tid → Option Item × C
item_by_lot rules w chooser (Some t) = (Some (Turn t), chooser)
item_by_lot rules w chooser None = row_by_lot rules w chooser (picked rules chooser (scan w))

-- The next item, and the chooser once it was drawn. What can happen is a turn of each thread that runs, by number, and behind these that a row is
-- taken, where one can be. The next pick of the chooser says which of them happens, counted from 0: of a generator that is its next word, modulo how
-- many these are. Where there are none nothing is picked, and the time moves to the next alarm, if there is one.
abbrev pub next_by_lot : {C : Type 0} → Rules C → PlainWorld → C → Option Item × C
next_by_lot rules w chooser =
    let ready = ready_from 0 w.threads in
    let choices = length ready + row_choices (scan w) in
    if choices == 0 then (option_map Clock (next_alarm w), chooser)
    else item_by_lot rules w (rules.next chooser) (slice_get ready (rules.picks chooser choices))

-- What happens next is drawn by lot.
abbrev pub by_lot : {C : Type 0} → Rules C → Way C
by_lot rules items w chooser = next_by_lot rules w chooser
