-- A schedule as it was read.
use Rattle.std.specs.Prelude.{ℕ, List, Option}
use Rattle.cml_check.specs.declared.size.Size.{Size}
use Rattle.cml_schedule.specs.declared.item.Item.{Item}

-- the budget of the run, of which a turn uses its steps and any other item 1; the size of the program, where the text says it; and what
-- happens, in order
pub record PlainPlan : Type 0 where
  pub budget : ℕ
  pub size : Option Size
  pub items : List Item
