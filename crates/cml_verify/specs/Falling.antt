-- How faults are found: among the edges.
use Rattle.std.specs.Prelude.{◌≡◌, ℕ, ◌<◌, ◌≤◌, Bool, false, List, [], ◌∷◌, ◌++◌, length, Option, Some, option_and_then, slice_get, Contains}
use Rattle.cml_value.specs.declared.number.Tid.{Tid}
use Rattle.cml_check.specs.Syntax.{PlainItem}
use Rattle.cml_schedule.specs.declared.item.Item.{Item}
use Rattle.cml_schedule.specs.declared.item.Item.TheVariants.{Turn}
use Rattle.cml_step.specs.Calls.{text_of}
use Rattle.cml_step.specs.Machines.{PlainMachine}
use Rattle.cml_step.specs.Terms.{Program}
use Rattle.cml_verify.specs.Systems.{System, run}
use Rattle.cml_verify.specs.Searches.{AreFewest, IsFoundBefore}
use Rattle.cml_verify.specs.Cores.{Core, core_step}
use Rattle.cml_verify.specs.Faults.{turn_of}
use Rattle.cml_verify.specs.Kept.{PlainKept, core_kept}
use Rattle.cml_verify.specs.Verdicts.{IsWithin}

-- the item leads on from the core, and by it a thread ends at a fault
pub record FaultsBy (p : Program) (with_output : Bool) (c : Core) (item : Item) : Type 0 where
  pub next : Core
  pub leads : core_step p with_output c item ≡ Some next
  pub one_more : c.past.faults < next.past.faults

-- from the state at this place on, the thread ends at a fault by its turn
pub record FallsFrom (p : List (PlainItem ℕ)) (with_output : Bool) (kept : List PlainKept) (f : ℕ × Tid) : Type 0 where
  pub one : PlainKept
  pub at : slice_get kept f.0 ≡ Some one
  pub falls : FaultsBy (text_of p) with_output (core_kept p one) (Turn f.1)

-- the machine of the thread in the state at this place
abbrev pub stood_at : List PlainKept → ℕ → Tid → Option PlainMachine
stood_at kept place thread = option_and_then (λ (one : PlainKept). slice_get one.machines thread.0) (slice_get kept place)

-- the thread is among these with this place, or with one before it at which it stands the same
abbrev pub IsFallNoted : List PlainKept → List (ℕ × Tid) → ℕ → Tid → Type 0
IsFallNoted kept told place thread = (k : ℕ) × Contains told (k, thread) × (k ≤ place) × (stood_at kept k thread ≡ stood_at kept place thread)

-- where the edge is a turn by which its thread ends at a fault, that is noted
abbrev pub EdgeIsNoted : List (PlainItem ℕ) → Bool → List PlainKept → List (ℕ × Tid) → ℕ × Item × ℕ → Type 0
EdgeIsNoted p with_output kept told e = (thread : Tid) → e.1 ≡ Turn thread → FallsFrom p with_output kept (e.0, thread) → IsFallNoted kept told e.0 thread

-- The schedule leads to the state at the place, and then comes a turn of the thread; no fewer items lead there, where the state stands nowhere
-- before.
pub record IsScheduleBy (y : System Core Item) (states : List Core) (f : ℕ × Tid) (schedule : List Item) : Type 0 where
  pub before : List Item
  pub last : schedule ≡ before ++ Turn f.1 ∷ []
  pub leads : run y y.start before ≡ slice_get states f.0
  pub fewest : AreFewest y false states f.0 before

-- these are such schedules, one after another, of the first so many
pub record AreSchedulesBy (y : System Core Item) (states : List Core) (told : List (ℕ × Tid)) (n : ℕ) (schedules : List (List Item)) : Type 0 where
  pub count : length schedules ≡ n
  pub each : (i : ℕ) (schedule : List Item) → slice_get schedules i ≡ Some schedule → (f : ℕ × Tid) × (slice_get told i ≡ Some f) × IsScheduleBy y states f schedule

-- each state at which a turn comes by a schedule (of at most so many items) was followed
abbrev pub AreFollowed : System Core Item → List Core → ℕ → Option ℕ → Type 0
AreFollowed y states followed most = (items : List Item) (c : Core) (thread : ℕ) → IsWithin most (items ++ turn_of thread ∷ []) → run y y.start items ≡ Some c
    → IsFoundBefore states followed c
