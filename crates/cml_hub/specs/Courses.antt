-- A program's course: the schedule so far, and where it has led.
use Rattle.std.specs.Prelude.{ℕ, suc, Bool, true, false, ◌≡◌, ◌≢◌, ◌*◌, ◌<◌, ◌≤◌, List, [], ◌∷◌, ◌++◌, length, map, Some, slice_get, slice_set}
use Rattle.std.specs.List.{All}
use Rattle.cml_scan.specs.World.{PlainThread, running, pending_on, ended, PlainWorld}
use Rattle.cml_scan.specs.declared.meet.Meet.{Meet}
use Rattle.cml_scan.specs.declared.meet.Meet.TheVariants.{Single, Pair}
use Rattle.cml_value.specs.Group.{PlainGroup}
use Rattle.cml_check.specs.Syntax.{PlainItem}
use Rattle.cml_check.specs.InOrder.{arities}
use Rattle.cml_step.specs.Calls.{text_of}
use Rattle.cml_step.specs.Terms.{call_of}
use Rattle.cml_value.specs.Value.{function, no_values}
use Rattle.cml_step.specs.Machines.{PlainMachine, machine_term}
use Rattle.cml_step.specs.Rans.{PlainRan}
use Rattle.cml_schedule.specs.declared.item.Item.{Item}
use Rattle.cml_schedule.specs.declared.item.Item.TheVariants.{Turn, Meet as Commit, Exchange, Clock}
use Rattle.cml_schedule.specs.Laws.{IsWritable}
use Rattle.cml_hub.specs.Runs.{Run, main_of, opening, stands, is_allowed, advance}
use Rattle.cml_hub.specs.Agreeing.{WorldAgrees}
use Rattle.cml_value.specs.declared.number.Tid.{Tid}
use Rattle.cml_hub.specs.declared.done.AfterTurn.{AfterTurn}
use Rattle.cml_hub.specs.Dones.{GoesOn, AwaitsCommit, ThreadsAfter}

-- the program, the schedule so far, the world, the machine of each thread by its number, the output, and how much of the budget was used
pub record PlainCourse : Type 0 where
  pub program : List (PlainItem ℕ)
  pub items : List Item
  pub world : PlainWorld
  pub machines : List PlainMachine
  pub output : List ℕ
  pub used : ℕ

-- the run that a course stands for: each machine is its term under the program
abbrev pub run_of : PlainCourse → Run
run_of c = record { world = c.world; terms = map (machine_term c.program) c.machines; output = c.output; used = c.used }

-- what holds of the machine of a thread in this state
abbrev pub MachineStands : List (PlainItem ℕ) → PlainThread → PlainMachine → Type 0
MachineStands p running m = GoesOn p m
MachineStands p (pending_on g) m = AwaitsCommit p m
MachineStands p ended m = Unit {0}

-- the machines of threads, of which the first has this number: each has the number of its thread, and fits its thread's state
abbrev pub MachinesStand : List (PlainItem ℕ) → ℕ → List PlainThread → List PlainMachine → Type 0
MachinesStand p k [] [] = Unit {0}
MachinesStand p k [] (m ∷ ms) = ⊥
MachinesStand p k (t ∷ ts) [] = ⊥
MachinesStand p k (t ∷ ts) (m ∷ ms) = (m.thread ≡ k) × MachineStands p t m × MachinesStand p (suc k) ts ms

-- What holds of every course: the schedule leads to where it stands; each machine can go on, or waits for its commit, as its thread does;
-- the world agrees with the program; what was used of the budget is at most 1,000 times the number of items; and each item can be written.
pub record Leads (c : PlainCourse) : Type 0 where
  pub leads : stands (text_of c.program) c.items ≡ Some (run_of c)
  pub machines : MachinesStand c.program 0 c.world.threads c.machines
  pub agrees : WorldAgrees (arities c.program) c.world
  pub spent : c.used ≤ 1000 * length c.items
  pub writable : All IsWritable c.items

-- what a course begins with: thread 0 runs, and its machine is about to call `main`
pub record IsOpening (p : List (PlainItem ℕ)) (machines : List PlainMachine) (w : PlainWorld) : Type 0 where
  pub first : PlainMachine
  pub alone : machines ≡ first ∷ []
  pub zeroth : first.thread ≡ 0
  pub term : machine_term p first ≡ call_of (text_of p) (function (main_of (text_of p)) no_values) ∷ []
  pub stands : GoesOn p first
  pub world : w ≡ (opening (text_of p)).world

-- a course at its beginning
pub record Begins (p : List (PlainItem ℕ)) (c : PlainCourse) : Type 0 where
  pub program : c.program ≡ p
  pub items : c.items ≡ []
  pub threads : c.world.threads ≡ running ∷ []

-- one more item was added, which is allowed where it stands
pub record Adds (old : PlainCourse) (item : Item) (new : PlainCourse) : Type 0 where
  pub program : new.program ≡ old.program
  pub items : new.items ≡ old.items ++ item ∷ []
  pub run : advance (text_of old.program) (run_of old) item ≡ Some (run_of new)

-- the item was added; or it is not allowed, and nothing was
abbrev pub Comes : PlainCourse → Item → Bool → PlainCourse → Type 0
Comes old item true new = Adds old item new
Comes old item false new = (is_allowed old.world item ≡ false) × (new ≡ old)

-- the thread of this number runs, and this is its machine
pub record HasMachine (c : PlainCourse) (t : ℕ) (m : PlainMachine) : Type 0 where
  pub running : slice_get c.world.threads t ≡ Some running
  pub machine : slice_get c.machines t ≡ Some m

-- the slice is of this program, and some running thread has the machine with which the slice began
abbrev pub IsOurs : PlainCourse → PlainRan → Type 0
IsOurs c ran = (ran.program ≡ c.program) × ((t : ℕ) × HasMachine c t ran.start)

-- the thread waits
abbrev pub IsPending : PlainWorld → ℕ → Type 0
IsPending w t = (g : PlainGroup) × (slice_get w.threads t ≡ Some (pending_on g))

-- the parties of a row wait; those of a pair are two different threads
abbrev pub PartiesWait : PlainWorld → Meet → Type 0
PartiesWait w (Single t n) = IsPending w t.0
PartiesWait w (Pair h i o j) = IsPending w h.0 × IsPending w o.0 × (h.0 ≢ o.0)

-- the threads, once the parties of a row go on
abbrev pub parties_run : Meet → List PlainThread → List PlainThread
parties_run (Single t n) ts = slice_set ts t.0 running
parties_run (Pair h i o j) ts = slice_set (slice_set ts h.0 running) o.0 running

-- a turn of the thread was added
pub record Turns (old : PlainCourse) (thread : Tid) (gone : AfterTurn) (new : PlainCourse) : Type 0 where
  pub adds : Adds old (Turn thread) new
  pub threads : ThreadsAfter thread.0 gone old.world.threads new.world.threads
  pub used : old.used < new.used

-- the item takes the row: by a plain commit, or by an exchange
abbrev pub TakesRow : Item → Meet → Type 0
TakesRow (Commit taken) row = taken ≡ row
TakesRow (Exchange taken) row = taken ≡ row
TakesRow _ row = ⊥

-- the row was taken, by this item
pub record Meets (old : PlainCourse) (item : Item) (row : Meet) (new : PlainCourse) : Type 0 where
  pub adds : Adds old item new
  pub parties : PartiesWait old.world row
  pub threads : new.world.threads ≡ parties_run row old.world.threads
  pub used : old.used < new.used

-- the time moved
pub record Ticks (old : PlainCourse) (tick : ℕ) (new : PlainCourse) : Type 0 where
  pub adds : Adds old (Clock tick) new
  pub threads : new.world.threads ≡ old.world.threads
  pub used : old.used < new.used
