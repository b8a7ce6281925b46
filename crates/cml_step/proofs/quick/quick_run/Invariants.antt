use Rattle.std.proofs.Common.{◌≤◌, ◌-◌, ℕ, ◌∷◌}
use Rattle.cml_step.specs.Callers.{calls_on, AllCallsFit, HasRoomAbove}
use Rattle.cml_step.specs.Calls.{entry_of, text_of}
use Rattle.cml_step.specs.Slices.{GoesIn}
use Rattle.cml_step.specs.Stacks.{CallFits}
use Rattle.cml_step.specs.Terms.{Term}
use Rattle.cml_step.proofs.quick.quick_run.Given as goal

-- this many steps went on
abbrev pub invariant-loop-done : goal.invariant-loop-done
invariant-loop-done l = record {
  within : l.done ≤ l.most;
  fits : CallFits l.program l.call;
  callers : AllCallsFit l.program l.callers.items;
  goes : (self : ℕ) (below : Term) → HasRoomAbove l.room below →
      GoesIn (text_of l.program) self l.done (entry_of l.program l.fn.call ∷ calls_on l.program l.fn.callers.items below) (entry_of l.program l.call ∷ calls_on l.program l.callers.items below);
}

abbrev pub decreases-loop-done : goal.decreases-loop-done
decreases-loop-done l = l.most - l.done
