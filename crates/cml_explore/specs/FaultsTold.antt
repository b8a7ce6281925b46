-- What is told of schedules by whose last items threads end at faults.
use Rattle.std.specs.Prelude.{◌≡◌, ℕ, ◌-◌, List, [], ◌∷◌, length, Option, Some, None, option_and_then, slice_get}
use Rattle.cml_check.specs.Syntax.{PlainItem}
use Rattle.cml_hub.specs.Kept.{Kept}
use Rattle.cml_phrase.specs.declared.place.Place.{Place}
use Rattle.cml_schedule.specs.declared.item.Item.{Item}
use Rattle.cml_schedule.specs.declared.item.Item.TheVariants.{Turn}
use Rattle.cml_explore.specs.declared.fault_told.FaultTold.{FaultTold}
use Rattle.cml_explore.specs.Ends.{HasGoneThrough}
use Rattle.cml_explore.specs.Told.{IsRunTold}

-- whose turn the item is, if it is one
abbrev pub turn_by : Item → Option ℕ
turn_by (Turn t) = Some t.0
turn_by _ = None

-- whose turn the last item is, if it is one
abbrev pub last_turn : List Item → Option ℕ
last_turn schedule = option_and_then turn_by (slice_get schedule (length schedule - 1))

-- What is told of this schedule: how many items it has, whose turn the last is, and the threads that are left in the run by it, or ended at a
-- fault in it.
pub record IsFaultTold (places : List (List Place)) (p : List (PlainItem ℕ)) (schedule : List Item) (told : FaultTold) : Type 0 where
  pub hub : Kept
  pub by : HasGoneThrough p schedule hub
  pub items_are : told.items ≡ length schedule
  pub thread_is : told.thread ≡ last_turn schedule
  pub run_is : IsRunTold places hub told.run

-- of each of these, in turn
abbrev pub AreFaultsTold : List (List Place) → List (PlainItem ℕ) → List (List Item) → List FaultTold → Type 0
AreFaultsTold places p [] [] = Unit {0}
AreFaultsTold places p (s ∷ ss) (t ∷ ts) = IsFaultTold places p s t × AreFaultsTold places p ss ts
AreFaultsTold places p _ _ = ⊥
