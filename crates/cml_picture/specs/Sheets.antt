-- What a picture shows.
use Rattle.std.specs.Prelude.{ℕ, Bool, List, Option}
use Rattle.cml_value.specs.Value.{PlainBase}
use Rattle.cml_facts.specs.declared.ending.awaited.Named.{Named}
use Rattle.cml_picture.specs.declared.sheet.hold.Held.{Held}
use Rattle.cml_picture.specs.Stacks.{PlainStack}

-- a thread that has not ended, and for what it waits; nothing where it runs
pub record PlainLeft : Type 0 where
  pub named : Named
  pub awaits : Option (List PlainBase)

-- what the items did, which M-variables threads held, the threads whose lines begin at the top, those that have not ended, whether nothing
-- can happen any more, how many threads there are, and how many items the schedule has
pub record PlainSheet : Type 0 where
  pub stack : PlainStack
  pub held : List Held
  pub beginnings : List Named
  pub left : List PlainLeft
  pub quiet : Bool
  pub threads : ℕ
  pub items : ℕ
