-- The ends among what is kept.
use Rattle.std.specs.Prelude.{◌≡◌, ℕ, ◌<◌, true, false, List, Some, length, slice_get, Contains}
use Rattle.cml_schedule.specs.declared.item.Item.{Item}
use Rattle.cml_hub.specs.Runs.{terminal}
use Rattle.cml_verify.specs.Systems.{System, run}
use Rattle.cml_verify.specs.Searches.{AreFewest}
use Rattle.cml_verify.specs.Cores.{Core}
use Rattle.cml_verify.specs.Kept.{PlainKept}

-- an end is kept at this place
pub record IsEndAt (kept : List PlainKept) (place : ℕ) : Type 0 where
  pub one : PlainKept
  pub at : slice_get kept place ≡ Some one
  pub over : terminal one.world ≡ true

-- each place before this one at which an end is kept is among those
abbrev pub EachEndIsAmong : List PlainKept → List ℕ → ℕ → Type 0
EachEndIsAmong kept places n = (k : ℕ) → k < n → IsEndAt kept k → Contains places k

-- These lead, one after another, to the states at so many of the places, the first ones; and no fewer items do, where they stand nowhere before.
pub record AreSchedulesTo (y : System Core Item) (states : List Core) (places : List ℕ) (n : ℕ) (schedules : List (List Item)) : Type 0 where
  pub count : length schedules ≡ n
  pub each : (i : ℕ) (schedule : List Item) → slice_get schedules i ≡ Some schedule
      → (k : ℕ) × (slice_get places i ≡ Some k) × (run y y.start schedule ≡ slice_get states k) × AreFewest y false states k schedule
