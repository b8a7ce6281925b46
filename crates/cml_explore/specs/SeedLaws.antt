-- What holds of the run by each seed.
use Rattle.std.specs.Prelude.{ℕ, ◌≡◌, ◌<◌, false, List, Some}
use Rattle.cml_check.specs.Syntax.{PlainItem}
use Rattle.cml_schedule.specs.declared.item.Item.{Item}
use Rattle.cml_step.specs.Calls.{text_of}
use Rattle.cml_hub.specs.Courses.{run_of}
use Rattle.cml_hub.specs.Kept.{Kept}
use Rattle.cml_hub.specs.Runs.{stands, is_allowed}
use Rattle.cml_explore.specs.SeedRuns.{IsSeedRun}
use Rattle.cml_explore.specs.declared.seed.order.Order.{Order}

-- The schedule of the run by a seed can be followed from the start, and leads to where the run stands, in each order.
abbrev pub SeedRunsLead : Type 0
SeedRunsLead = (p : List (PlainItem ℕ)) (budget : ℕ) (order : Order) (seed : ℕ) (h : Kept) → IsSeedRun p budget order seed h → stands (text_of p) h.course.items ≡ Some (run_of h.course)

-- The run by a seed is over, in each order: where it has not used the budget, no item is allowed any more.
abbrev pub SeedRunsEnd : Type 0
SeedRunsEnd =
    (p : List (PlainItem ℕ)) (budget : ℕ) (order : Order) (seed : ℕ) (h : Kept) → IsSeedRun p budget order seed h → h.course.used < budget → (item : Item) → is_allowed h.course.world item ≡ false
