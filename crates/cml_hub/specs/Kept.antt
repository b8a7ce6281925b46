-- What a hub keeps, and how its calls change it.
use Rattle.std.specs.Prelude.{ℕ, ◌≡◌, ◌≢◌, ◌+◌, ◌-◌, ◌≤◌, Bool, true, false, List, [], ◌∷◌, ◌++◌, ◌⊎◌, length, Option, Some, None, IfSome, Result, Ok, Err, unwrap_or, slice_get, slice_set}
use Rattle.std.specs.List.{All}
use Rattle.cml_value.specs.declared.number.Tid.{Tid}
use Rattle.cml_scan.specs.World.{PlainThread, PlainWorld, running}
use Rattle.cml_scan.specs.Scan.{scan}
use Rattle.cml_check.specs.Syntax.{PlainItem}
use Rattle.cml_check.specs.Sizes.{size_of}
use Rattle.cml_check.specs.declared.size.Size.{Size}
use Rattle.cml_book.specs.Walks.{runs}
use Rattle.cml_book.specs.Swaps.{swaps}
use Rattle.cml_schedule.specs.Reports.{PlainReport}
use Rattle.cml_schedule.specs.declared.item.Item.{Item}
use Rattle.cml_schedule.specs.declared.item.Item.TheVariants as item
use Rattle.cml_step.specs.Calls.{text_of}
use Rattle.cml_step.specs.Rans.{PlainRan}
use Rattle.cml_hub.specs.declared.fault.End.{End}
use Rattle.cml_hub.specs.declared.fault.Next.{Next}
use Rattle.cml_hub.specs.declared.fault.Next.TheVariants as next
use Rattle.cml_hub.specs.declared.fault.GiveFault.{GiveFault}
use Rattle.cml_hub.specs.declared.fault.GiveFault.TheVariants.{Stranger, Memory}
use Rattle.cml_hub.specs.declared.fault.ReplayFault.{ReplayFault}
use Rattle.cml_hub.specs.declared.fault.ReplayFault.TheVariants as replay_fault
use Rattle.cml_hub.specs.declared.ready_queue.Mark.{Mark}
use Rattle.cml_hub.specs.ReadyQueue.{is_here}
use Rattle.cml_hub.specs.Runs.{Run, any_runs, over, ending, stands, advance}
use Rattle.cml_hub.specs.Dones.{GoesOn}
use Rattle.cml_hub.specs.Courses.{PlainCourse, run_of, Adds, Comes, HasMachine, IsOurs}
use Rattle.cml_hub.specs.Reports.{AreReports, IsDue}

-- a hub: its program with the schedule so far and where that has led; its budget; after how many items a report is made, if any is; by
-- thread whether a slice of it is out; the threads that are ready, in the order of their turns; and the reports
pub record Kept : Type 0 where
  pub course : PlainCourse
  pub budget : ℕ
  pub watch : Option ℕ
  pub out : List Bool
  pub queue : List Tid
  pub reports : List PlainReport

-- the numbers that a budget and a watch may be
abbrev pub IsBudget : ℕ → Type 0
IsBudget n = (1 ≤ n) × (n ≤ 1000000000)

abbrev pub IsWatch : Option ℕ → Type 0
IsWatch None = Unit {0}
IsWatch (Some k) = IsBudget k

-- exactly the threads that run are ready or out
abbrev pub Placed : List PlainThread → List Mark → Type 0
Placed [] [] = Unit {0}
Placed [] (m ∷ ms) = ⊥
Placed (t ∷ ts) [] = ⊥
Placed (t ∷ ts) (m ∷ ms) = (is_here m ≡ runs t) × Placed ts ms

-- what holds of every hub, beside what holds of its course
pub record Stands (h : Kept) (marks : List Mark) : Type 0 where
  pub placed : Placed h.course.world.threads marks
  pub budgeted : IsBudget h.budget
  pub watched : IsWatch h.watch
  pub reported : AreReports (text_of h.course.program) h.course.items h.watch h.reports

-- no report is due
abbrev pub NoneDue : Kept → Type 0
NoneDue h = IsDue h.watch (length h.course.items) (length h.reports) → ⊥

-- whether a slice of the thread is out
abbrev pub is_out_of : List Bool → ℕ → Bool
is_out_of out t = unwrap_or (slice_get out t) false

-- no slice is out
abbrev pub NoneOut : Kept → Type 0
NoneOut h = (t : ℕ) → is_out_of h.out t ≡ false

-- a slice of every thread that runs is out
abbrev pub AllOut : Kept → Type 0
AllOut h = (t : ℕ) → slice_get h.course.world.threads t ≡ Some running → is_out_of h.out t ≡ true

-- only of threads that run a slice is out; so where no thread runs none is
abbrev pub OnlyRunningOut : Kept → Type 0
OnlyRunningOut h = (t : ℕ) → is_out_of h.out t ≡ true → slice_get h.course.world.threads t ≡ Some running

-- Where memory ran out: no slice is out; or those that are out could not be queued again, and nothing has changed.
abbrev pub NoneOutOrSame : Kept → Kept → Type 0
NoneOutOrSame old new = NoneOut new ⊎ (new ≡ old)

-- the hub is at its beginning: nothing has happened yet, and thread 0 is ready
pub record IsAtStart (p : List (PlainItem ℕ)) (budget : ℕ) (watch : Option ℕ) (h : Kept) : Type 0 where
  pub program : h.course.program ≡ p
  pub budget_is : h.budget ≡ budget
  pub watch_is : h.watch ≡ watch
  pub items : h.course.items ≡ []
  pub reports : h.reports ≡ []
  pub none_out : NoneOut h
  pub queue : h.queue ≡ record { 0 = 0 } ∷ []

-- The second list was added after the first, item by item. Each time, `Holds` is so of the run before the item, and of the item.
abbrev pub EachAdded : List (PlainItem ℕ) → (Run → Item → Type 0) → List Item → List Item → Type 0
EachAdded p Holds items [] = Unit {0}
EachAdded p Holds items (item ∷ more) =
    IfSome (stands (text_of p) items) (λ r. Holds r item) × EachAdded p Holds (items ++ item ∷ []) more

-- Each of these items was added where the run was not over: something was left to do, and the budget was not used.
abbrev pub AddedInTime : List (PlainItem ℕ) → ℕ → List Item → List Item → Type 0
AddedInTime p budget items more = EachAdded p (λ r item. over budget r ≡ false) items more

-- The item takes a row of two swaps only as an exchange.
abbrev pub TellsSwaps : PlainWorld → Item → Type 0
TellsSwaps w (item.Meet row) = swaps w row ≡ false
TellsSwaps w _ = Unit {0}

-- Each of these items, where it was added, took a row of two swaps only as an exchange.
abbrev pub SwapsAreExchanges : List (PlainItem ℕ) → List Item → List Item → Type 0
SwapsAreExchanges p items more = EachAdded p (λ r item. TellsSwaps r.world item) items more

-- The hub goes on from the other one: it has the same program, budget and watch, and its items and reports begin with the other's. No item
-- was added once the run was over, and each row of two swaps that was taken is an exchange. (That each item is allowed where it stands holds
-- of every hub.)
pub record Continues (old new : Kept) : Type 0 where
  pub program : new.course.program ≡ old.course.program
  pub budget : new.budget ≡ old.budget
  pub watch : new.watch ≡ old.watch
  pub more : List Item
  pub items : new.course.items ≡ old.course.items ++ more
  pub in_time : AddedInTime old.course.program old.budget old.course.items more
  pub exchanges : SwapsAreExchanges old.course.program old.course.items more
  pub made : List PlainReport
  pub reports : new.reports ≡ old.reports ++ made

-- an item that is no turn: a row that is taken, or a tick
abbrev pub IsNoTurn : Item → Type 0
IsNoTurn (item.Turn t) = ⊥
IsNoTurn _ = Unit {0}

-- it goes on, and no thread had a turn
pub record Extends (old new : Kept) : Type 0 where
  pub continues : Continues old new
  pub no_turn : All IsNoTurn continues.more

-- What is handed out. A job is the machine of a running thread; no slice of the thread was out, and now one is. The hub says to wait only
-- where no row can be taken, some thread runs, and a slice of every thread that runs is out. That it says `Ended` exactly where the run
-- is over stands in the contract of `take`.
abbrev pub HandsOut : Kept → Next → Kept → Type 0
HandsOut old (next.Job m) new =
    HasMachine new.course m.thread m × GoesOn new.course.program m
    × (is_out_of old.out m.thread ≡ false) × (new.out ≡ slice_set old.out m.thread true)
HandsOut old next.Wait new =
    (scan new.course.world ≡ []) × (any_runs new.course.world ≡ true) × AllOut new × (new.out ≡ old.out)
HandsOut old next.Ended new = new.out ≡ old.out

-- the hub says that it has ended: nothing is left to do, or the budget is used
abbrev pub is_ended : Next → Bool
is_ended (next.Job m) = false
is_ended next.Wait = false
is_ended next.Ended = true

-- One turn more, of this thread, of which no slice is out now; and reports that were due may have been made.
pub record Given (old : Kept) (t : Tid) (new : Kept) : Type 0 where
  pub adds : Adds old.course (item.Turn t) new.course
  pub budget : new.budget ≡ old.budget
  pub watch : new.watch ≡ old.watch
  pub made : List PlainReport
  pub reports : new.reports ≡ old.reports ++ made
  pub back : is_out_of new.out t.0 ≡ false
  pub others : (u : ℕ) → u ≢ t.0 → is_out_of new.out u ≡ is_out_of old.out u

-- A slice is taken where it is of the hub's program and of a machine that a running thread has now. Any other slice is a stranger. Memory
-- can run out only for a slice that is no stranger. Both faults hand the slice back, and change nothing.
abbrev pub TakesSlice : Kept → PlainRan → Result (Unit {0}) GiveFault → Kept → Type 0
TakesSlice old ran (Ok done) new = IsOurs old.course ran × Given old (record { 0 = ran.start.thread }) new
TakesSlice old ran (Err (Stranger back)) new = (IsOurs old.course ran → ⊥) × (back ≡ ran) × (new ≡ old)
TakesSlice old ran (Err (Memory back)) new = IsOurs old.course ran × (back ≡ ran) × (new ≡ old)

-- the hub has run to this end: nothing is left to do, or the budget is used; no slice is out, and no report is due
pub record IsOver (end : End) (h : Kept) : Type 0 where
  pub over_is : over h.budget (run_of h.course) ≡ true
  pub end_is : end ≡ ending h.budget (run_of h.course)
  pub none_out : NoneOut h
  pub none_due : NoneDue h

-- Whether the item came: it was added, where it is allowed; or it is not allowed, and the course stands where it stood. A report that was
-- due was made.
pub record IsFollowed (old : Kept) (item : Item) (came : Bool) (new : Kept) : Type 0 where
  pub budget : new.budget ≡ old.budget
  pub watch : new.watch ≡ old.watch
  pub made : List PlainReport
  pub reports : new.reports ≡ old.reports ++ made
  pub course : Comes old.course item came new.course

-- the run is over, or so many steps more of the budget are used
abbrev pub IsFar : Kept → ℕ → Kept → Type 0
IsFar old steps new = (over new.budget (run_of new.course) ≡ true) ⊎ (steps ≤ new.course.used - old.course.used)

-- the first item that is not allowed where it stands has this number, counted from 1
pub record IsFirstBad (p : List (PlainItem ℕ)) (items : List Item) (number : ℕ) : Type 0 where
  pub before : List Item
  pub bad : Item
  pub rest : List Item
  pub split : items ≡ before ++ bad ∷ rest
  pub counted : number ≡ length before + 1
  pub run : Run
  pub leads : stands (text_of p) before ≡ Some run
  pub refused : advance (text_of p) run bad ≡ None

-- the hub that has gone through these items
pub record IsReplayed (p : List (PlainItem ℕ)) (budget : ℕ) (watch : Option ℕ) (items : List Item) (h : Kept) : Type 0 where
  pub program : h.course.program ≡ p
  pub budget_is : h.budget ≡ budget
  pub watch_is : h.watch ≡ watch
  pub items_are : h.course.items ≡ items
  pub none_out : NoneOut h
  pub none_due : NoneDue h

-- A schedule is replayed exactly where it leads somewhere, unless memory runs out. Where it does not, the number of the first item that
-- is not allowed is returned. At both faults the program comes back.
abbrev pub Replays : List (PlainItem ℕ) → ℕ → Option ℕ → List Item → Result Kept ReplayFault → Type 0
Replays p budget watch items (Ok h) = IsReplayed p budget watch items h
Replays p budget watch items (Err (replay_fault.BadItem number back)) =
    (back ≡ p) × IsFirstBad p items number × (stands (text_of p) items ≡ None)
Replays p budget watch items (Err (replay_fault.Memory back)) = back ≡ p

-- a schedule that says a size is one of programs of that size
abbrev pub FitsSize : Option Size → List (PlainItem ℕ) → Type 0
FitsSize None p = Unit {0}
FitsSize (Some size) p = size ≡ size_of p
