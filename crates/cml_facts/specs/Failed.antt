-- The thread that ends at a fault by an item.
use Rattle.std.specs.Prelude.{◌≡◌, [], ◌∷◌, ◌++◌, Option, Some, None}
use Rattle.cml_step.specs.Calls.{text_of}
use Rattle.cml_step.specs.Machines.{PlainMachine, machine_term}
use Rattle.cml_schedule.specs.declared.item.Item.{Item}
use Rattle.cml_hub.specs.Courses.{PlainCourse}
use Rattle.cml_hub.specs.Dones.{GoesOn}
use Rattle.cml_facts.specs.Failures.{failure_of, failures}

-- By the item the thread of this machine ends at a fault. Before it, the machine could go on.
pub record FailsBy (c : PlainCourse) (item : Item) (m : PlainMachine) : Type 0 where
  pub goes : GoesOn c.program m
  pub one_more : failures (text_of c.program) (c.items ++ item ∷ [])
      ≡ failures (text_of c.program) c.items ++ failure_of (text_of c.program) m.thread (machine_term c.program m) ∷ []

-- the thread that ends at a fault by the item had this machine; or none does
abbrev pub FailsSo : PlainCourse → Item → Option PlainMachine → Type 0
FailsSo c item None = failures (text_of c.program) (c.items ++ item ∷ []) ≡ failures (text_of c.program) c.items
FailsSo c item (Some m) = FailsBy c item m
