-- What holds of the classes of all runs.
use Rattle.std.specs.Prelude.{ℕ, ◌≡◌, ◌≤◌, ◌<◌, ◌+◌, true, List, sum_by}
use Rattle.std.specs.List.{All}
use Rattle.cml_check.specs.Syntax.{PlainItem}
use Rattle.cml_schedule.specs.declared.item.Item.{Item}
use Rattle.cml_hub.specs.Kept.{Kept}
use Rattle.cml_facts.specs.declared.fault.detail.Detail.{Detail}
use Rattle.cml_explore.specs.declared.explored.Asked.{Asked}
use Rattle.cml_facts.specs.Details.{alike}
use Rattle.cml_judge.specs.Judgements.{AreDetailsWith}
use Rattle.cml_judge.specs.declared.judged.Wanted.{Wanted}
use Rattle.cml_explore.specs.Classes.{PlainClass}
use Rattle.cml_explore.specs.SeedRuns.{IsSeedRun}
use Rattle.cml_explore.specs.Explored.{PlainExplored, IsExplored}
use Rattle.cml_explore.specs.Finishes.{PlainEnded, IsEndOf, is_well}
use Rattle.cml_explore.specs.Orders.{seed_order}

-- This is the schedule of the run by one of so many seeds, which ended as the runs of a class did that have these details.
pub record IsOneOfClass (p : List (PlainItem ℕ)) (asked : Asked) (runs : ℕ) (details : List Detail) (items : List Item) : Type 0 where
  pub seed : ℕ
  pub from : asked.first ≤ seed
  pub below : seed < asked.first + runs
  pub hub : Kept
  pub run : IsSeedRun p asked.budget (seed_order asked.orders seed) seed hub
  pub ended : List Detail
  pub are : AreDetailsWith asked.wanted hub ended
  pub same : alike ended details ≡ true
  pub items_are : hub.course.items ≡ items

-- The schedule that is kept of a class is that of one of its runs.
abbrev pub KeepsItsOwn : Type 0
KeepsItsOwn =
    (p : List (PlainItem ℕ)) (asked : Asked) (made : PlainExplored) → IsExplored p asked made → All (λ c. IsOneOfClass p asked made.runs c.details c.summary.shortest) made.classes

-- Runs that ended alike, held against the same, are all good, or all bad.
abbrev pub JudgedAlike : Type 0
JudgedAlike =
    (servers : List ℕ) (wanted : Wanted) (one other : Kept) (d e : PlainEnded) → IsEndOf servers wanted one d → IsEndOf servers wanted other e
    → alike d.finish.details e.finish.details ≡ true → is_well d ≡ is_well e

-- Each run counts once.
abbrev pub CountsEachOnce : Type 0
CountsEachOnce = (p : List (PlainItem ℕ)) (asked : Asked) (made : PlainExplored) → IsExplored p asked made → sum_by (λ c. c.summary.runs) made.classes ≡ made.runs
