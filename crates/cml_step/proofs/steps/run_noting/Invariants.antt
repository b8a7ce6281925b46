use Rattle.std.proofs.Common.{◌≡◌, ◌≤◌, ◌-◌}
use Rattle.cml_step.specs.declared.ask.Ask.TheVariants as asks_of
use Rattle.cml_step.specs.Slices.{sliced_from}
use Rattle.cml_step.specs.Calls.{text_of}
use Rattle.cml_step.specs.Stacks.{term_of, StackFits}
use Rattle.cml_step.proofs.steps.run_noting.Given as goal

abbrev pub invariant-loop-done : goal.invariant-loop-done
invariant-loop-done l = record {
  within : l.done ≤ l.most;
  fits : StackFits l.program l.stack;
  nothing : l.asked ≡ asks_of.Nothing;
  left :
      sliced_from (text_of l.program) l.thread.0 l.most 0 (term_of l.program l.initial.stack)
      ≡ sliced_from (text_of l.program) l.thread.0 (l.most - l.done) l.done (term_of l.program l.stack);
}

abbrev pub decreases-loop-done : goal.decreases-loop-done
decreases-loop-done l = l.most - l.done
