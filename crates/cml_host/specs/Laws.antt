-- What follows of the outcomes that are told.
use Rattle.std.specs.Prelude.{◌≡◌, ℕ, ◌≤◌, Bool, true, List, length, Option, Some, Contains}
use Rattle.cml_check.specs.Syntax.{PlainItem}
use Rattle.cml_explore.specs.Outcomes.{PlainOutcome, ends_from}
use Rattle.cml_schedule.specs.declared.item.Item.{Item}
use Rattle.cml_step.specs.Calls.{text_of}
use Rattle.cml_verify.specs.Verdicts.{EndsIn, IsVerdict, IsWithin, RunEnd}
use Rattle.cml_host.specs.Outcomes.{AreOutcomes, PlainOutcomeTold, outcome_text}

-- the text of an outcome with the output of this end, in which the threads wait that wait there
abbrev pub IsTextOf : RunEnd → List ℕ → Type 0
IsTextOf e text =
    (o : PlainOutcome) × (fell : ℕ → Bool) × (text ≡ outcome_text o) × (Some o.output ≡ e.printed) × (o.threads ≡ ends_from fell 0 e.world.threads)

-- Where these outcomes are told of the schedules of a verdict that looks at the output, the end of each schedule (of at most so many items) has
-- its outcome among them, with a schedule that has no more items.
abbrev pub NoOutcomeIsLeftOut : Type 0
NoOutcomeIsLeftOut = (p : List (PlainItem ℕ)) (bound states : ℕ) (most : Option ℕ) (schedules : List (List Item)) (told : List PlainOutcomeTold)
    → IsVerdict p true bound most schedules states → AreOutcomes p schedules told → (schedule : List Item) (e : RunEnd) → IsWithin most schedule
    → EndsIn (text_of p) true schedule e → (t : PlainOutcomeTold) × Contains told t × IsTextOf e t.text × (length t.schedule ≤ length schedule)
