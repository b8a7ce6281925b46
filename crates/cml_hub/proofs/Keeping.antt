-- What holds of a hub holds of it after each move.
use Rattle.std.proofs.Common.{◌≡◌, ℕ, List, map, refl, Some}
use Rattle.std.specs.Prelude.{slice_get}
use Rattle.cml_value.specs.declared.number.Tid.{Tid}
use Rattle.cml_scan.specs.World.{running}
use Rattle.cml_scan.specs.declared.meet.Meet.{Meet}
use Rattle.cml_schedule.specs.declared.item.Item.{Item}
use Rattle.cml_schedule.specs.declared.item.Item.TheVariants.{Turn, Clock}
use Rattle.cml_hub.specs.declared.done.AfterTurn.{AfterTurn}
use Rattle.cml_hub.specs.declared.ready_queue.Mark.{Mark}
use Rattle.cml_hub.specs.ReadyQueue.{is_out}
use Rattle.cml_hub.specs.Courses.{PlainCourse, Turns, Meets, Ticks}
use Rattle.cml_hub.specs.Kept.{Kept, Stands, NoneDue}
use Rattle.cml_hub.specs.Moves.{IsNext, marks_after, PartiesAway, marks_met, AddsItem}
use Rattle.cml_hub.proofs.Marking.{placed_turn, next_is, placed_met, parties_away}
use Rattle.cml_hub.proofs.Reporting.{stands_moved}

pub stands_turned : (h : Kept) (ms : List Mark) (t : Tid) (g : AfterTurn) (new : PlainCourse) (q : List Tid)
    → Stands h ms → NoneDue h → slice_get h.course.world.threads t.0 ≡ Some running → Turns h.course t g new
    → Stands (record { course = new; budget = h.budget; watch = h.watch; out = map is_out (marks_after t.0 g ms); queue = q; reports = h.reports }) (marks_after t.0 g ms)
stands_turned h ms t g new q s none run turns =
    stands_moved h ms (marks_after t.0 g ms) (Turn t) new q s none turns.adds (placed_turn h.course.world.threads new.world.threads ms t.0 g s.placed run turns.threads)

pub next_turned : (h : Kept) (ms : List Mark) (t : Tid) (g : AfterTurn) (new : PlainCourse) → Stands h ms → Turns h.course t g new → IsNext g ms
next_turned h ms t g new s turns = next_is h.course.world.threads new.world.threads ms t.0 g s.placed turns.threads

pub moves_turned : (h : Kept) (t : Tid) (g : AfterTurn) (new : PlainCourse) (ms : List Mark) (q : List Tid) → Turns h.course t g new
    → AddsItem h (Turn t) (record { course = new; budget = h.budget; watch = h.watch; out = map is_out ms; queue = q; reports = h.reports })
moves_turned h t g new ms q turns = record { adds = turns.adds; budget = refl; watch = refl; reports = refl; used = turns.used }

pub stands_met : (h : Kept) (ms : List Mark) (item : Item) (row : Meet) (new : PlainCourse) (q : List Tid) → Stands h ms → NoneDue h → Meets h.course item row new
    → Stands (record { course = new; budget = h.budget; watch = h.watch; out = map is_out (marks_met row ms); queue = q; reports = h.reports }) (marks_met row ms)
stands_met h ms item row new q s none meets =
    stands_moved h ms (marks_met row ms) item new q s none meets.adds (rw (meets.threads) (placed_met h.course.world.threads ms row s.placed))

pub away_met : (h : Kept) (ms : List Mark) (item : Item) (row : Meet) (new : PlainCourse) → Stands h ms → Meets h.course item row new → PartiesAway ms row
away_met h ms item row new s meets = parties_away h.course.world ms row s.placed meets.parties

pub moves_met : (h : Kept) (item : Item) (row : Meet) (new : PlainCourse) (ms : List Mark) (q : List Tid) → Meets h.course item row new
    → AddsItem h item (record { course = new; budget = h.budget; watch = h.watch; out = map is_out ms; queue = q; reports = h.reports })
moves_met h item row new ms q meets = record { adds = meets.adds; budget = refl; watch = refl; reports = refl; used = meets.used }

pub stands_ticked : (h : Kept) (ms : List Mark) (tick : ℕ) (new : PlainCourse) (q : List Tid) → Stands h ms → NoneDue h → Ticks h.course tick new
    → Stands (record { course = new; budget = h.budget; watch = h.watch; out = map is_out ms; queue = q; reports = h.reports }) ms
stands_ticked h ms tick new q s none ticks = stands_moved h ms ms (Clock tick) new q s none ticks.adds (rw (ticks.threads) s.placed)

pub moves_ticked : (h : Kept) (tick : ℕ) (new : PlainCourse) (ms : List Mark) (q : List Tid) → Ticks h.course tick new
    → AddsItem h (Clock tick) (record { course = new; budget = h.budget; watch = h.watch; out = map is_out ms; queue = q; reports = h.reports })
moves_ticked h tick new ms q ticks = record { adds = ticks.adds; budget = refl; watch = refl; reports = refl; used = ticks.used }
