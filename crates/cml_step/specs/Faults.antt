-- What ends a thread of a script, and what becomes of a step that is at fault.
use Rattle.std.specs.Prelude.{◌≡◌, ℕ, List, codes, Result, Ok, Err}
use Rattle.cml_step.specs.declared.fault.Fault.{Fault}
use Rattle.cml_step.specs.declared.fault.Fault.TheVariants as fault
use Rattle.cml_step.specs.declared.fault.Stop.{Stop}
use Rattle.cml_step.specs.declared.fault.Stop.TheVariants as stop

-- the name that the line of a fault gives it
abbrev pub fault_name : Fault → List ℕ
fault_name fault.Kind = codes "kind"
fault_name fault.Overflow = codes "overflow"
fault_name fault.Range = codes "range"
fault_name fault.Deep = codes "deep"
fault_name fault.Stack = codes "stack"
fault_name fault.Put = codes "put"
fault_name fault.Leaves = codes "leaves"
fault_name fault.Far = codes "far"
fault_name fault.Full = codes "full"

-- what a part of a step comes to, or the fault that ends the thread
abbrev pub Found : Type 0 → Type 0
Found A = Result A Fault

-- one part after another: the first fault is the fault of both
infixl 10 ◌>>=◌
abbrev pub ◌>>=◌ : {A B : Type 0} → Found A → (A → Found B) → Found B
(Ok x) >>= f = f x
(Err e) >>= f = Err e

-- what a call returned, under this view, is what was to be found, unless memory ran out
abbrev pub ComesTo : {X Y : Type 0} → (X → Y) → Result X Stop → Found Y → Type 0
ComesTo view (Ok x) found = found ≡ Ok (view x)
ComesTo view (Err (stop.Fault e)) found = found ≡ Err e
ComesTo view (Err stop.Memory) found = Unit {0}
