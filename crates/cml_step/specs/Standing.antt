-- At which statement of its function a call stands.
use Rattle.std.specs.Prelude.{◌≡◌, ℕ, Option, Some, None}
use Rattle.cml_check.specs.Syntax.{PlainItem, PlainEffect, effect, let_be, just_do, stmts_and, Name}
use Rattle.cml_step.specs.Terms.{runs, drops, gives, StackEntry, call}
use Rattle.cml_step.specs.Calls.{statements_at}

-- A call of f that stands for this entry is at this place. While it runs, the statements that are left are those from there on. While it
-- waits, the statement there has an effect; what that gives goes where the call waits for it; and the statements after it are left.
abbrev pub StandsAt : PlainItem ℕ → ℕ → StackEntry → Type 0
StandsAt f place (call left variables runs) = statements_at f place ≡ left
StandsAt f place (call left variables drops) = (e : PlainEffect Name) × (statements_at f place ≡ stmts_and (just_do e) left)
StandsAt f place (call left variables (gives x)) = (e : PlainEffect Name) × (statements_at f place ≡ stmts_and (let_be x (effect e)) left)
StandsAt f place entry = ⊥

-- the same of a function that may be there
abbrev pub StandsIn : Option (PlainItem ℕ) → ℕ → StackEntry → Type 0
StandsIn (Some f) place entry = StandsAt f place entry
StandsIn None place entry = ⊥
