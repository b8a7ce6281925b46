-- What undoes a slice: the machine before it.
use Rattle.std.specs.Prelude.{◌≡◌, Bool, true, false, None, []}
use Rattle.cml_step.specs.declared.journal.Journal.{Journal}
use Rattle.cml_step.specs.declared.undo.Undo.{Undo}
use Rattle.cml_step.specs.Machines.{PlainMachine}
use Rattle.cml_step.specs.Shared.{HoldsNoValue}
use Rattle.cml_step.specs.Undone.{IsNotedStack}

-- The machine before the slice is the spare, where that was filled; else it is what the journal has of the machine now.
abbrev pub IsUndoneBy : Bool → Journal → PlainMachine → PlainMachine → PlainMachine → Type 0
IsUndoneBy true j spare now before = before ≡ spare
IsUndoneBy false j spare now before = (before.thread ≡ now.thread) × IsNotedStack j now.stack before.stack

abbrev pub IsUndone : Undo → PlainMachine → PlainMachine → Type 0
IsUndone u now before = IsUndoneBy u.filled u.journal u.spare now before

-- no value is held
pub record RestsUndo (u : Undo) : Type 0 where
  pub sets : u.journal.sets.items ≡ []
  pub over : u.journal.over ≡ None
  pub spare : HoldsNoValue u.spare.stack
