use Rattle.std.proofs.Common.{◌≡◌, ◌≤◌, ◌-◌, ℕ, ◌∷◌, true}
use Rattle.cml_check.specs.InOrder.{arities}
use Rattle.cml_step.specs.Slices.{GoesIn}
use Rattle.cml_step.specs.Calls.{entry_for, text_of, RunsOn}
use Rattle.cml_step.specs.Terms.{Term}
use Rattle.cml_step.specs.Undone.{HasNotes}
use Rattle.cml_step.proofs.plain.steps_of.Given as goal

-- this many steps went on
abbrev pub invariant-loop-done : goal.invariant-loop-done
invariant-loop-done l = record {
  within : l.done ≤ l.most;
  kept : RunsOn (arities l.program) l.fn.call l.call;
  goes : (self : ℕ) (below : Term) → GoesIn (text_of l.program) self l.done (entry_for l.f l.fn.call ∷ below) (entry_for l.f l.call ∷ below);
  noted : l.noting ≡ true → HasNotes l.fn.sets.items l.fn.call l.sets.items l.call;
}

abbrev pub decreases-loop-done : goal.decreases-loop-done
decreases-loop-done l = l.most - l.done
