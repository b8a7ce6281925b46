-- The run that a chooser makes.
use Rattle.std.specs.Prelude.{ℕ, zero, suc, ◌≡◌, ◌==◌, ◌⊎◌, if◌then◌else◌, Bool, true, false, List, [], ◌∷◌, ◌++◌, length}
use Rattle.std.specs.Prelude.{Option, Some, None, IfSome, option_map, option_and_then, unwrap_or, slice_get}
use Rattle.cml_value.specs.declared.number.Tid.{Tid}
use Rattle.cml_scan.specs.World.{PlainWorld}
use Rattle.cml_scan.specs.Scan.{scan, heads_of, partners_of}
use Rattle.cml_scan.specs.declared.meet.Meet.{Meet}
use Rattle.cml_scan.specs.declared.meet.Meet.TheVariants.{Single, Pair}
use Rattle.cml_book.specs.Swaps.{swaps}
use Rattle.cml_book.specs.Walks.{is_running}
use Rattle.cml_schedule.specs.declared.item.Item.{Item}
use Rattle.cml_schedule.specs.declared.item.Item.TheVariants.{Turn, Meet as Commit, Exchange, Clock}
use Rattle.cml_check.specs.Syntax.{PlainItem}
use Rattle.cml_step.specs.Calls.{text_of}
use Rattle.cml_step.specs.Terms.{Program}
use Rattle.cml_hub.specs.declared.fault.Next.{Next}
use Rattle.cml_hub.specs.declared.fault.Next.TheVariants as next
use Rattle.cml_hub.specs.ReadyQueue.{those_out}
use Rattle.cml_hub.specs.Runs.{Run, opening, stands, advance, next_alarm, over}
use Rattle.cml_hub.specs.Courses.{run_of}
use Rattle.cml_hub.specs.Kept.{Kept, IsAtStart}

-- The rules of a chooser, as the trait `Chooser` has them: what it picks among so many things, and what it is after a pick.
pub record Rules (C : Type 0) : Type 0 where
  pub picks : C → ℕ → ℕ
  pub next : C → C

-- one of these rows is picked
abbrev pub one_of : {C : Type 0} → Rules C → C → List Meet → Option Meet
one_of rules chooser rows = slice_get rows (rules.picks chooser (length rows))

-- The row that is picked: the first pick is among the heads, the second among the rows that begin with that head.
abbrev pub picked : {C : Type 0} → Rules C → C → List Meet → Option Meet
picked rules chooser rows =
    option_and_then (λ head. one_of rules (rules.next chooser) (partners_of rows head)) (slice_get (heads_of rows) (rules.picks chooser (length (heads_of rows))))

-- what the chooser is then; where there is no row it was not asked
abbrev pub spent : {C : Type 0} → Rules C → C → Option Meet → C
spent rules chooser None = chooser
spent rules chooser (Some row) = rules.next (rules.next chooser)

-- A run on its way: the schedule so far, and where that has led; the threads that are ready, in the order of their turns; and the chooser.
pub record Played (C : Type 0) : Type 0 where
  pub items : List Item
  pub run : Run
  pub queue : List Tid
  pub chooser : C

-- at the beginning thread 0 is ready
abbrev pub begun_by : {C : Type 0} → Program → C → Played C
begun_by p chooser = record { items = []; run = opening p; queue = record { 0 = 0 } ∷ []; chooser = chooser }

-- the item that takes a row: an exchange where the row is of two swaps
abbrev pub taking : PlainWorld → Meet → Item
taking w row = if swaps w row then Exchange row else Commit row

-- the parties of a row, the head first
abbrev pub parties : Meet → List Tid
parties (Single t n) = t ∷ []
parties (Pair h i o j) = h ∷ o ∷ []

-- The thread that began between these worlds, if one did. (`ready_after`: it is ready behind the others, and behind it t, where t still runs.)
abbrev pub begun_between : PlainWorld → PlainWorld → List Tid
begun_between old new = if length new.threads == length old.threads then [] else record { 0 = length old.threads } ∷ []

abbrev pub ready_after : PlainWorld → PlainWorld → Tid → List Tid
ready_after old new t = begun_between old new ++ (if is_running new t.0 then t ∷ [] else [])

-- one item more, which is allowed where the run stands; then the threads that `queue` gives for the new world are ready, and the chooser is this
abbrev pub adds : {C : Type 0} → Program → Played C → Item → (PlainWorld → List Tid) → C → Option (Played C)
adds p g item queue chooser =
    option_map (λ r. record { items = g.items ++ item ∷ []; run = r; queue = queue r.world; chooser = chooser }) (advance p g.run item)

-- Where no thread is ready: this row is taken, and its parties are ready; or there is none, and the time moves to the next alarm.
abbrev pub moved_by : {C : Type 0} → Program → Rules C → Played C → Option Meet → Option (Played C)
moved_by p rules g (Some row) = adds p g (taking g.run.world row) (λ w. g.queue ++ parties row) (spent rules g.chooser (Some row))
moved_by p rules g None = option_and_then (λ tick. adds p g (Clock tick) (λ w. g.queue) g.chooser) (next_alarm g.run.world)

-- The next item: the thread that is ready first has its turn; where none is ready, the row that is picked is taken, or the time moves.
abbrev pub next_by : {C : Type 0} → Program → Rules C → Played C → List Tid → Option (Played C)
next_by p rules g (t ∷ rest) = adds p g (Turn t) (λ w. rest ++ ready_after g.run.world w t) g.chooser
next_by p rules g [] = moved_by p rules g (picked rules g.chooser (scan g.run.world))

-- so many items more, but none once the run is over
abbrev pub played : {C : Type 0} → Program → ℕ → Rules C → ℕ → Played C → Played C
played p budget rules zero g = g
played p budget rules (suc n) g = if over budget g.run then g else played p budget rules n (unwrap_or (next_by p rules g g.queue) g)

-- The run of a program by a chooser, to its end. Each item uses at least 1 of the budget, so no more items than that are added.
abbrev pub run_by : {C : Type 0} → Program → ℕ → Rules C → C → Played C
run_by p budget rules chooser = played p budget rules budget (begun_by p chooser)

-- where a hub stands with its chooser
abbrev pub playing : {C : Type 0} → Kept → C → Played C
playing h chooser = record { items = h.course.items; run = run_of h.course; queue = h.queue; chooser = chooser }

-- the hub has gone on by the next item
abbrev pub GoesBy : {C : Type 0} → Rules C → Kept → C → Kept → C → Type 0
GoesBy rules old chooser new last = next_by (text_of old.course.program) rules (playing old chooser) old.queue ≡ Some (playing new last)

-- the same, where anything was left to do; else the chooser was not asked
abbrev pub GoesIfLeftBy : {C : Type 0} → Rules C → Kept → C → Bool → Kept → C → Type 0
GoesIfLeftBy rules old chooser true new last = GoesBy rules old chooser new last
GoesIfLeftBy rules old chooser false new last = last ≡ chooser

-- no thread was ready: the row that is picked was taken, or the time moved, if anything was done; else the chooser was not asked
abbrev pub MovesBy : {C : Type 0} → Rules C → Kept → C → Bool → Kept → C → Type 0
MovesBy rules old chooser true new last =
    moved_by (text_of old.course.program) rules (playing old chooser) (picked rules chooser (scan old.course.world)) ≡ Some (playing new last)
MovesBy rules old chooser false new last = last ≡ chooser

-- where it stands once the threads whose slices are out are ready again: they come last, in the order of their numbers
abbrev pub called_back : {C : Type 0} → Kept → C → Played C
called_back h chooser = record { items = h.course.items; run = run_of h.course; queue = h.queue ++ those_out 0 h.out; chooser = chooser }

-- The hub has run to its end as the chooser makes the run.
abbrev pub PlaysOut : {C : Type 0} → Rules C → Kept → C → Kept → C → Type 0
PlaysOut rules old chooser new last =
    playing new last ≡ played (text_of old.course.program) old.budget rules old.budget (called_back old chooser)

-- It has come so far on that way; the last picks of the chooser may have been for an item that was not made. Or nothing has changed.
pub record PlaysOn {C : Type 0} (rules : Rules C) (old : Kept) (chooser : C) (new : Kept) : Type 0 where
  pub items : ℕ
  pub last : C
  pub plays : playing new last ≡ played (text_of old.course.program) old.budget rules items (called_back old chooser)

abbrev pub PlaysSoFar : {C : Type 0} → Rules C → Kept → C → Kept → Type 0
PlaysSoFar rules old chooser new = PlaysOn rules old chooser new ⊎ (new ≡ old)

-- A hub at the beginning of a program, whose schedule leads to where it stands, stands where the run of the program by this chooser begins.
abbrev pub BeginsRun : {C : Type 0} → Kept → C → Type 0
BeginsRun h chooser =
    (p : List (PlainItem ℕ)) (budget : ℕ) (watch : Option ℕ) → IsAtStart p budget watch h → stands (text_of h.course.program) h.course.items ≡ Some (run_of h.course)
    → called_back h chooser ≡ begun_by (text_of p) chooser

-- ---- a part of a run

-- It has gone on by items that the chooser makes, and by none once the run was over.
pub record PlaysFrom {C : Type 0} (p : Program) (budget : ℕ) (rules : Rules C) (from to : Played C) : Type 0 where
  pub items : ℕ
  pub plays : to ≡ played p budget rules items from

-- The hub has gone on so.
abbrev pub PlaysFurther : {C : Type 0} → Rules C → Kept → C → Kept → C → Type 0
PlaysFurther rules old chooser new last = PlaysFrom (text_of old.course.program) old.budget rules (playing old chooser) (playing new last)

-- The same; the last picks of the chooser may have been for an item that was not made.
pub record PlaysSome {C : Type 0} (rules : Rules C) (old : Kept) (chooser : C) (new : Kept) : Type 0 where
  pub last : C
  pub plays : PlaysFurther rules old chooser new last

-- where the hub stood with its chooser before this was handed out: the thread of a job was ready first
abbrev pub before_handing : {C : Type 0} → Next → Kept → C → Played C
before_handing (next.Job m) h chooser = record { items = h.course.items; run = run_of h.course; queue = record { 0 = m.thread } ∷ h.queue; chooser = chooser }
before_handing _ h chooser = playing h chooser

-- The hub has gone on so, and has then handed this out.
abbrev pub PlaysUpTo : {C : Type 0} → Rules C → Kept → C → Next → Kept → C → Type 0
PlaysUpTo rules old chooser next new last = PlaysFrom (text_of old.course.program) old.budget rules (playing old chooser) (before_handing next new last)

-- ---- the rows of a run

-- the row that the item takes, if it takes one
abbrev pub row_taken : Item → Option Meet
row_taken (Commit row) = Some row
row_taken (Exchange row) = Some row
row_taken _ = None

-- what the chooser is after these items: it was asked for each row that they take, and for nothing else
abbrev pub asked : {C : Type 0} → Rules C → C → List Item → C
asked rules chooser [] = chooser
asked rules chooser (item ∷ more) = asked rules (spent rules chooser (row_taken item)) more

-- The second list was added after the first. Each row that it takes is the one that the chooser picked where it was taken.
abbrev pub EachPicked : {C : Type 0} → Program → Rules C → C → List Item → List Item → Type 0
EachPicked p rules chooser items [] = Unit {0}
EachPicked p rules chooser items (item ∷ more) =
    IfSome (stands p items) (λ r. IfSome (row_taken item) (λ row. picked rules chooser (scan r.world) ≡ Some row))
    × EachPicked p rules (spent rules chooser (row_taken item)) (items ++ item ∷ []) more

-- Each row that was taken on the way is the one that the chooser picked there.
pub record Picks {C : Type 0} (p : Program) (rules : Rules C) (from to : Played C) : Type 0 where
  pub more : List Item
  pub items : to.items ≡ from.items ++ more
  pub rows : EachPicked p rules from.chooser from.items more
  pub last : to.chooser ≡ asked rules from.chooser more

-- What a chooser makes of a run from where a schedule has led takes the rows that it picks.
abbrev pub PlaysPick : {C : Type 0} → Rules C → Program → ℕ → Played C → Played C → Type 0
PlaysPick rules p budget from to = stands p from.items ≡ Some from.run → PlaysFrom p budget rules from to → Picks p rules from to
