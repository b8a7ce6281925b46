-- What the runs by lot can be.
use Rattle.std.specs.Prelude.{ℕ, ◌≡◌, ◌%◌, true, List, [], ◌++◌, map, drop, Some}
use Rattle.cml_check.specs.Syntax.{PlainItem}
use Rattle.cml_schedule.specs.declared.item.Item.{Item}
use Rattle.cml_schedule.specs.declared.item.Item.TheVariants.{Meet as Commit, Exchange}
use Rattle.cml_step.specs.Calls.{text_of}
use Rattle.cml_step.specs.Terms.{Program}
use Rattle.cml_hub.specs.Choices.{first_number}
use Rattle.cml_hub.specs.Kept.{AddedInTime}
use Rattle.cml_hub.specs.Playing.{Rules}
use Rattle.cml_hub.specs.Runs.{Run, stands, over}
use Rattle.cml_explore.specs.Draws.{run_drawn}
use Rattle.cml_explore.specs.Lots.{by_lot}

-- the item; of an exchange, the commit of its row
abbrev pub as_commit : Item → Item
as_commit (Exchange row) = Commit row
as_commit item = item

-- by the words of a list, one after another, each modulo the count of things; behind the last by 0
abbrev pub by_list : Rules (List ℕ)
by_list = record { picks = λ words count. first_number words % count; next = λ words. drop 1 words }

-- These words make the schedule, each exchange taken as its commit: the run by lot that they make begins with it, and is no longer where that is over.
pub record IsMade (p : Program) (budget : ℕ) (items : List Item) (end : Run) (words : List ℕ) : Type 0 where
  pub rest : List Item
  pub begins : map as_commit (run_drawn (by_lot by_list) p budget words).items ≡ map as_commit items ++ rest
  pub whole : over budget end ≡ true → rest ≡ []

-- Each schedule that can be followed, of which no item was added once the run was over, is made by some words.
abbrev pub TurnsReachAll : Type 0
TurnsReachAll =
    (p : List (PlainItem ℕ)) (budget : ℕ) (items : List Item) (end : Run) → stands (text_of p) items ≡ Some end → AddedInTime p budget [] items
    → (words : List ℕ) × IsMade (text_of p) budget items end words
