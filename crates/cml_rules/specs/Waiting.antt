-- What the law says of the group that a thread of a run waits on: from which event it came, and how.
use Rattle.std.specs.Prelude.{◌≡◌, ◌<◌, ◌≤◌, ℕ, true, false, List, ◌∷◌, ◌++◌, Some, Ok, slice_get}
use Rattle.cml_value.specs.Value.{event, PlainFunction, PlainEvent}
use Rattle.cml_value.specs.Group.{PlainGroup}
use Rattle.cml_group.specs.Force.{calls, unforced, replaced}
use Rattle.cml_check.specs.declared.syntax.ActOnOne.TheVariants.{Sync}
use Rattle.cml_check.specs.Syntax.{PlainExpr, act_on_one, effect, PlainStmt, let_be, just_do, PlainStmts, stmts_and, Name}
use Rattle.cml_schedule.specs.declared.item.Item.{Item}
use Rattle.cml_schedule.specs.declared.item.Item.TheVariants.{Turn}
use Rattle.cml_step.specs.Evaluate.{evaluate}
use Rattle.cml_step.specs.Slices.{GoesIn, max_steps}
use Rattle.cml_step.specs.Steps.{goes_on, next}
use Rattle.cml_step.specs.Terms.{Program, runs, StackEntry, call, force, Term}
use Rattle.cml_step.specs.Variables.{Variables, value_of}
use Rattle.cml_hub.specs.Runs.{Run, stands}
use Rattle.cml_rules.specs.Acts.{ForcesTo}
use Rattle.cml_rules.specs.Rules.{Waits}

-- In the run of these items the thread comes to this term: after some of them it takes a turn, and gets there by steps that ask nothing.
pub record ComesBy (p : Program) (items : List Item) (t : ℕ) (term : Term) : Type 0 where
  pub before : List Item
  pub after : List Item
  pub split : items ≡ before ++ Turn (record { 0 = t }) ∷ after
  pub now : Run
  pub stood : stands p before ≡ Some now
  pub start : Term
  pub at : slice_get now.terms t ≡ Some start
  pub steps : ℕ
  pub few : steps < max_steps
  pub goes : GoesIn p t steps start term

-- the statement is `sync` of what this expression is
pub data IsSync : PlainStmt Name → PlainExpr Name → Type 0 where
  dropped : (x : PlainExpr Name) → IsSync (just_do (act_on_one Sync x)) x
  named : (y : Name) (x : PlainExpr Name) → IsSync (let_be y (effect (act_on_one Sync x))) x

-- The thread has called sync on this event, which then was to be forced on top of these entries.
pub record HandsToSync (p : Program) (items : List Item) (t : ℕ) (e : PlainEvent) (below : Term) : Type 0 where
  pub s : PlainStmt Name
  pub left : PlainStmts Name
  pub variables : Variables
  pub rest : Term
  pub x : PlainExpr Name
  pub came : ComesBy p items t (call (stmts_and s left) variables runs ∷ rest)
  pub sync : IsSync s x
  pub value : evaluate (value_of variables) x ≡ Ok (event e)
  pub goes : next p t (call (stmts_and s left) variables runs ∷ rest) ≡ goes_on (force e false ∷ below)

-- To an event of the thread that waits for the call of this function this event was returned.
pub record HasReturned (p : Program) (items : List Item) (t : ℕ) (f : PlainFunction) (new : PlainEvent) : Type 0 where
  pub top : StackEntry
  pub e : PlainEvent
  pub below : Term
  pub came : ComesBy p items t (top ∷ force e false ∷ below)
  pub waits : unforced e ≡ Some (calls f)
  pub goes : next p t (top ∷ force e false ∷ below) ≡ goes_on (force (replaced new e) false ∷ below)

-- The thread has called sync on an event, and by the rules this became the group, when the wait began, by what the functions returned that
-- were called for it.
pub record IsForcedFrom (p : Program) (items : List Item) (now : Run) (t : ℕ) (g : PlainGroup) : Type 0 where
  pub last : PlainEvent
  pub below : Term
  pub stands : slice_get now.terms t ≡ Some (force last true ∷ below)
  pub first : PlainEvent
  pub handed : HandsToSync p items t first below
  pub since : ℕ
  pub past : since ≤ now.world.tick
  pub forced : ForcesTo (HasReturned p items t) since first g

-- Each thread that waits in a run waits on such a group.
abbrev pub PendingAreForced : Type 0
PendingAreForced = (p : Program) (items : List Item) (now : Run) → stands p items ≡ Some now → (t : ℕ) (g : PlainGroup) → Waits now.world t g → IsForcedFrom p items now t g
