-- Steps that only set variables and choose places.
use Rattle.std.proofs.Common.{◌≡◌, ℕ, ◌∷◌, true, false, Ok, Err, Result}
use Rattle.std.specs.Result.{is_ok}
use Rattle.cml_check.specs.Syntax.{PlainItem}
use Rattle.cml_step.specs.declared.fault.Stop.{Stop}
use Rattle.cml_step.specs.declared.fault.Stop.TheVariants as stop
use Rattle.cml_step.specs.declared.call.Call.{Call}
use Rattle.cml_step.specs.Terms.{Term}
use Rattle.cml_step.specs.Steps.{PlainStep, goes_on}
use Rattle.cml_step.specs.Calls.{StepsOn, entry_for}

-- a step that was made went on
pub went : {A : Type 0} → (f : PlainItem ℕ) (r : Result A Stop) (old new : Call) (below : Term) (step : PlainStep) → is_ok r ≡ true → StepsOn f r old new below step →
    step ≡ goes_on (entry_for f new ∷ below)
went f (Ok x) old new below step is h = h
went f (Err (stop.Fault why)) old new below step is h = cc
went f (Err stop.Memory) old new below step is h = cc

-- with one that was not made the call stands where it stood
pub stayed : {A : Type 0} → (f : PlainItem ℕ) (r : Result A Stop) (old new : Call) (below : Term) (step : PlainStep) → is_ok r ≡ false → StepsOn f r old new below step →
    entry_for f new ≡ entry_for f old
stayed f (Ok x) old new below step is h = cc
stayed f (Err (stop.Fault why)) old new below step is h = h.1
stayed f (Err stop.Memory) old new below step is h = h
