-- Machines after a turn and after a row.
use Rattle.std.proofs.Common.{◌≡◌, ℕ, zero, suc, ◌<◌, List, [], ◌∷◌, ◌++◌, length, refl, sym, ap, subst, ◌∙◌, arith, Option, Some, None, append-nil}
use Rattle.std.specs.Prelude.{slice_get, slice_set}
use Rattle.std.specs.Option.{option_to_list}
use Rattle.cml_step.specs.Machines.{PlainMachine}
use Rattle.cml_hub.specs.declared.done.Done.{Done}
use Rattle.cml_hub.specs.Dones.{children}
use Rattle.cml_hub.specs.Settling.{SettlesAll, AllSettled}
use Rattle.cml_hub.proofs.Standing.{set_again}

-- the threads that begin, if any
pub none_begins : (xs : List PlainMachine) (d : Done) (o : Option PlainMachine) → o ≡ None → option_to_list o ≡ children d → xs ≡ xs ++ children d
none_begins xs d o none e = sym (append-nil xs) ∙ ap (λ ys. xs ++ ys) (ap option_to_list (sym none) ∙ e)

pub one_begins : (xs : List PlainMachine) (d : Done) (o : Option PlainMachine) (child : PlainMachine) → o ≡ Some child → option_to_list o ≡ children d → xs ++ child ∷ [] ≡ xs ++ children d
one_begins xs d o child is e = ap (λ ys. xs ++ ys) (ap option_to_list (sym is) ∙ e)

-- what was set is there
pub set_there : {X : Type 0} (xs : List X) (i : ℕ) (x : X) → i < length xs → slice_get (slice_set xs i x) i ≡ Some x
set_there [] i x lt = absurd (omega arith)
set_there (y ∷ xs) zero x lt = refl
set_there (y ∷ xs) (suc i) x lt = set_there xs i x (omega arith)

-- the machine that was there was settled where it stands
pub settled_at : (ms : List PlainMachine) (t : ℕ) (before m end : PlainMachine) (d : Done) (new : List PlainMachine)
    → slice_get ms t ≡ Some before → slice_get ms t ≡ Some end → SettlesAll before d m →
    new ≡ slice_set ms t m ++ children d → AllSettled ms t end d new
settled_at ms t before m end d new was is s e =
    let same : before ≡ end = cc in
    record { machine = m; settled = subst (λ x. SettlesAll x d m) same s; is = e }

-- what stood there before its slice does not matter
pub settled_over : (ms : List PlainMachine) (t : ℕ) (end : PlainMachine) (d : Done) (new : List PlainMachine) → AllSettled (slice_set ms t end) t end d new → AllSettled ms t end d new
settled_over ms t end d new s = record {
  machine = s.machine;
  settled = s.settled;
  is = s.is ∙ ap (λ xs. xs ++ children d) (set_again ms t end s.machine);
}
