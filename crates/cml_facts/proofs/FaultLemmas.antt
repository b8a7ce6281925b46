-- What is known of a thread that ended at a fault.
use Rattle.std.proofs.Common.{◌≡◌, ℕ, List, subst}
use Rattle.std.specs.Prelude.{Result, Ok, Err, IfOk}
use Rattle.cml_check.specs.Syntax.{PlainItem}
use Rattle.cml_step.specs.Calls.{text_of}
use Rattle.cml_step.specs.Machines.{PlainMachine, machine_term}
use Rattle.cml_facts.specs.declared.fault.fact.ThreadFault.{ThreadFault}
use Rattle.cml_facts.specs.Failures.{failure_of}
use Rattle.cml_facts.specs.Falls.{PlainFall, IsFall}
use Rattle.cml_facts.specs.ThreadFaults.{Known, IsKnownOf, IsThreadFault}

-- by its fall
pub known_by_fall : {E : Type 0} (r : Result ThreadFault E) (k : Known) (p q : List (PlainItem ℕ)) (m : PlainMachine) (fall : PlainFall) → q ≡ p →
    IsFall q (failure_of (text_of q) m.thread (machine_term q m)) fall → IfOk r (IsKnownOf k p fall) → IfOk r (IsThreadFault k p (failure_of (text_of p) m.thread (machine_term p m)))
known_by_fall (Ok fault) k p q m fall same fell is =
    record { fall = fall; fell = subst (λ (r : List (PlainItem ℕ)). IsFall r (failure_of (text_of r) m.thread (machine_term r m)) fall) same fell; is = is }
known_by_fall (Err e) k p q m fall same fell is = tt
