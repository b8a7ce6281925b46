-- What is promised of a search of every schedule of a program.
use Rattle.std.specs.Prelude.{◌≡◌, ℕ, ◌+◌, ◌≤◌, Bool, true, false, List, length, map, Option, Some, None, IfSome, IfNone, option_map, slice_get, Contains}
use Rattle.std.specs.List.{All}
use Rattle.cml_value.specs.Value.{PlainFunction}
use Rattle.cml_check.specs.Syntax.{PlainItem}
use Rattle.cml_scan.specs.World.{PlainWorld}
use Rattle.cml_schedule.specs.declared.item.Item.{Item}
use Rattle.cml_step.specs.Calls.{text_of}
use Rattle.cml_step.specs.Machines.{PlainMachine, machine_term}
use Rattle.cml_step.specs.Terms.{Program, Term}
use Rattle.cml_hub.specs.Runs.{Run, stands, terminal}
use Rattle.cml_hub.specs.Deeds.{origins, fault_count}
use Rattle.cml_verify.specs.Placed.{AreThreadsIn}

-- what is seen of the output: all of it, or, where it does not count, nothing
abbrev pub output_if : Bool → List ℕ → Option (List ℕ)
output_if true output = Some output
output_if false output = None

-- an end: the world, where each thread stands, with which function it began, how many threads ended at a fault, and what is seen of the output
pub record RunEnd : Type 0 where
  pub world : PlainWorld
  pub terms : List Term
  pub began : List PlainFunction
  pub faults : ℕ
  pub printed : Option (List ℕ)

-- The schedule leads to a run in which nothing is left to do, and so it ends.
pub record EndsIn (p : Program) (with_output : Bool) (schedule : List Item) (e : RunEnd) : Type 0 where
  pub run : Run
  pub leads : stands p schedule ≡ Some run
  pub world : run.world ≡ e.world
  pub terms : run.terms ≡ e.terms
  pub began : origins p schedule ≡ e.began
  pub faults : fault_count p schedule ≡ e.faults
  pub printed : output_if with_output run.output ≡ e.printed
  pub over : terminal e.world ≡ true

-- the schedule ends
abbrev pub HasEnd : Program → Bool → List Item → Type 0
HasEnd p with_output schedule = (e : RunEnd) × EndsIn p with_output schedule e

-- all schedules, or those of at most so many items
abbrev pub IsWithin : Option ℕ → List Item → Type 0
IsWithin None schedule = Unit {0}
IsWithin (Some most) schedule = length schedule ≤ most

-- For each schedule (of at most so many items) that ends, one that ends so and has no more items is among these.
abbrev pub EveryEndIsTold : Program → Bool → Option ℕ → List (List Item) → Type 0
EveryEndIsTold p with_output most told = (schedule : List Item) (e : RunEnd) → IsWithin most schedule → EndsIn p with_output schedule e
    → (one : List Item) × Contains told one × EndsIn p with_output one e × (length one ≤ length schedule)

-- a state: the world, where each thread stands in the program, with which function it began, how many threads ended at a fault, and what is seen
-- of the output
pub record RunState : Type 0 where
  pub world : PlainWorld
  pub machines : List PlainMachine
  pub began : List PlainFunction
  pub faults : ℕ
  pub printed : Option (List ℕ)

-- The schedule leads to a run that stands so.
pub record StandsSo (p : List (PlainItem ℕ)) (with_output : Bool) (schedule : List Item) (s : RunState) : Type 0 where
  pub run : Run
  pub leads : stands (text_of p) schedule ≡ Some run
  pub world : run.world ≡ s.world
  pub terms : run.terms ≡ map (machine_term p) s.machines
  pub began : origins (text_of p) schedule ≡ s.began
  pub faults : fault_count (text_of p) schedule ≡ s.faults
  pub printed : output_if with_output run.output ≡ s.printed

-- No two of these states are the same. The threads of each stand in the program. A schedule leads to each (of at most one item more than so
-- many), and each schedule (of at most so many items) leads to one of them.
pub record AreStates (p : List (PlainItem ℕ)) (with_output : Bool) (most : Option ℕ) (states : List RunState) : Type 0 where
  pub different : (j k : ℕ) (s : RunState) → slice_get states j ≡ Some s → slice_get states k ≡ Some s → j ≡ k
  pub placed : All (λ s. AreThreadsIn p s.machines) states
  pub reached : All (λ s. (schedule : List Item) × StandsSo p with_output schedule s × IsWithin (option_map (λ m. m + 1) most) schedule) states
  pub each : (schedule : List Item) (run : Run) → IsWithin most schedule → stands (text_of p) schedule ≡ Some run
      → (s : RunState) × Contains states s × StandsSo p with_output schedule s

-- No two of the schedules lead to one of these states: they lead to those at places that differ.
pub record LeadApart (p : List (PlainItem ℕ)) (with_output : Bool) (states : List RunState) (told : List (List Item)) : Type 0 where
  pub places : List ℕ
  pub apart : (i j k : ℕ) → slice_get places i ≡ Some k → slice_get places j ≡ Some k → i ≡ j
  pub each : (i : ℕ) (schedule : List Item) → slice_get told i ≡ Some schedule
      → (k : ℕ) × (s : RunState) × (slice_get places i ≡ Some k) × (slice_get states k ≡ Some s) × StandsSo p with_output schedule s

-- There are so many states: all of them, or at least all to which schedules of at most so many items lead. No two of the schedules that are told
-- lead to one of them.
abbrev pub CountsStates : List (PlainItem ℕ) → Bool → Option ℕ → List (List Item) → ℕ → Type 0
CountsStates p with_output most told n = (states : List RunState) × AreStates p with_output most states × (length states ≡ n) × LeadApart p with_output states told

-- What is promised of the schedules that are told, of how many states there are, and of how many items at most the schedules had that were
-- examined (nothing: all were), where the search stops at the first state beyond its bound, and only there. The output counts, or not.
pub record IsVerdict (p : List (PlainItem ℕ)) (with_output : Bool) (bound : ℕ) (most : Option ℕ) (told : List (List Item)) (states : ℕ) : Type 0 where
  pub each : All (HasEnd (text_of p) with_output) told
  pub all : EveryEndIsTold (text_of p) with_output most told
  pub stopped : IfSome most (λ m. states ≡ bound + 1)
  pub finished : IfNone most (states ≤ bound)
  pub counted : CountsStates p with_output most told states
