-- What is handed out and given back.
use Rattle.std.proofs.Common.{ℕ, ◌≡◌, List, Result, Ok, Err, OnErr}
use Rattle.cml_check.specs.Syntax.{PlainItem}
use Rattle.cml_step.specs.Machines.{PlainMachine}

-- what was said of a program and a machine is said of the same ones
pub of_same : (H : List (PlainItem ℕ) → PlainMachine → Type 0) (p q : List (PlainItem ℕ)) (m n : PlainMachine) → p ≡ q → m ≡ n → H q n → H p m
of_same H p q m n a b h = rw (a, b) h

-- what holds holds at an error
pub at_error : {A E : Type 0} (P : Type 0) (r : Result A E) → P → OnErr r P
at_error P (Ok x) p = tt
at_error P (Err e) p = p
