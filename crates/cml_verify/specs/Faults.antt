-- What is promised of the faults and of the schedules without end that are told.
use Rattle.std.specs.Prelude.{◌≡◌, ℕ, ◌≤◌, true, false, List, [], ◌∷◌, ◌++◌, length, Option, None, Some, slice_get, Contains}
use Rattle.std.specs.List.{All}
use Rattle.cml_schedule.specs.declared.item.Item.{Item}
use Rattle.cml_schedule.specs.declared.item.Item.TheVariants.{Turn}
use Rattle.cml_step.specs.Terms.{Program, Term}
use Rattle.cml_hub.specs.Performed.{fails}
use Rattle.cml_hub.specs.Runs.{Run, stands, is_allowed}
use Rattle.cml_hub.specs.Deeds.{deed}
use Rattle.cml_verify.specs.Verdicts.{HasEnd, IsWithin}

-- a turn of the thread of this number
abbrev pub turn_of : ℕ → Item
turn_of thread = Turn (record { 0 = thread })

-- The last item of the schedule is a turn of this thread, and can come. By it the thread ends at a fault, from where it stands so.
pub record FaultComesLast (p : Program) (schedule : List Item) (thread : ℕ) (stood : Term) : Type 0 where
  pub before : List Item
  pub last : schedule ≡ before ++ turn_of thread ∷ []
  pub run : Run
  pub leads : stands p before ≡ Some run
  pub comes : is_allowed run.world (turn_of thread) ≡ true
  pub from : slice_get run.terms thread ≡ Some stood
  pub name : List ℕ
  pub falls : deed p run (turn_of thread) ≡ Some (fails name)

-- by its last item a thread ends at a fault
abbrev pub HasFault : Program → List Item → Type 0
HasFault p schedule = (thread : ℕ) × (stood : Term) × FaultComesLast p schedule thread stood

-- For each schedule (of at most so many items) by whose last item a thread ends at a fault, one by whose last item the same thread does so, from
-- where it stands the same, and that has no more items, is among these.
abbrev pub EveryFaultIsTold : Program → Option ℕ → List (List Item) → Type 0
EveryFaultIsTold p most told = (schedule : List Item) (thread : ℕ) (stood : Term) → IsWithin most schedule → FaultComesLast p schedule thread stood
    → (one : List Item) × Contains told one × FaultComesLast p one thread stood × (length one ≤ length schedule)

-- by the last item of each that is told a thread ends at a fault, and each thread that does so is told
pub record AreFaults (p : Program) (most : Option ℕ) (told : List (List Item)) : Type 0 where
  pub each : All (HasFault p) told
  pub all : EveryFaultIsTold p most told

-- The schedule leads somewhere, and whatever comes behind it, it does not end.
pub record NeverEnds (p : Program) (schedule : List Item) : Type 0 where
  pub run : Run
  pub leads : stands p schedule ≡ Some run
  pub never : (more : List Item) → HasEnd p false (schedule ++ more) → ⊥

-- wherever a schedule leads, it can go on so that it ends
abbrev pub CanAlwaysEnd : Program → Type 0
CanAlwaysEnd p = (schedule : List Item) (run : Run) → stands p schedule ≡ Some run → (more : List Item) × HasEnd p false (schedule ++ more)

-- A schedule is told that never ends, and no such one has fewer items; or none is told, and then, if all schedules were examined, each can go on so that it ends.
abbrev pub IsUnending : Program → Option ℕ → Option (List Item) → Type 0
IsUnending p most (Some schedule) = NeverEnds p schedule × ((others : List Item) → NeverEnds p others → length schedule ≤ length others)
IsUnending p (Some most) None = Unit {0}
IsUnending p None None = CanAlwaysEnd p
