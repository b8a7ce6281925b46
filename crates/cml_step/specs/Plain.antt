-- Steps of a call that runs, which only set variables and choose places.
use Rattle.std.specs.Prelude.{◌≡◌, ℕ, List, ◌∷◌}
use Rattle.cml_value.specs.Value.{PlainValue}
use Rattle.cml_check.specs.Syntax.{PlainItem}
use Rattle.cml_step.specs.declared.call.Wait.TheVariants as wait
use Rattle.cml_step.specs.Calls.{call_at}
use Rattle.cml_step.specs.Slices.{GoesIn}
use Rattle.cml_step.specs.Steps.{next, goes_on}
use Rattle.cml_step.specs.Terms.{Program, StackEntry, Term}

-- a call of f that runs, at this place, with these values in its slots
abbrev pub running : PlainItem ℕ → ℕ → List PlainValue → StackEntry
running f at slots = call_at f at slots wait.Runs

-- In one step it comes from one place to another, and its slots from these values to those.
abbrev pub PassesTo : PlainItem ℕ → ℕ → List PlainValue → ℕ → List PlainValue → Type 0
PassesTo f at old to new = (p : Program) (self : ℕ) (below : Term) → next p self (running f at old ∷ below) ≡ goes_on (running f to new ∷ below)

-- the same in this many steps
abbrev pub RunsTo : ℕ → PlainItem ℕ → ℕ → List PlainValue → ℕ → List PlainValue → Type 0
RunsTo n f at old to new = (p : Program) (self : ℕ) (below : Term) → GoesIn p self n (running f at old ∷ below) (running f to new ∷ below)
