use Rattle.std.proofs.Common.{◌≡◌, ◌≤◌, ◌-◌, ℕ, List, true}
use Rattle.cml_step.specs.Agrees.{all_agree}
use Rattle.cml_step.specs.Plain.{RunsTo}
use Rattle.cml_step.specs.Undone.{unset}
use Rattle.cml_step.proofs.plain.flat_run.Given as goal

-- this many steps went on
abbrev pub invariant-loop-done : goal.invariant-loop-done
invariant-loop-done l = record {
  within : l.done ≤ l.most;
  goes : RunsTo l.done l.f l.from l.fn.slots l.at l.slots;
  agree : (fs : List ℕ) → all_agree fs l.fn.slots ≡ true → all_agree fs l.slots ≡ true;
  noted : l.noting ≡ true → unset l.sets.items l.slots ≡ unset l.fn.sets.items l.fn.slots;
}

abbrev pub decreases-loop-done : goal.decreases-loop-done
decreases-loop-done l = l.most - l.done
