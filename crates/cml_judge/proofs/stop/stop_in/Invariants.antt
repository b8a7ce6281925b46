use Rattle.std.proofs.Common.{ℕ, ◌+◌, ◌<◌, take}
use Rattle.cml_step.specs.Calls.{text_of}
use Rattle.cml_facts.specs.Again.{RunsAgain}
use Rattle.cml_judge.specs.Stops.{HasComeBehind}
use Rattle.cml_judge.proofs.stop.stop_in.Given as goal

-- the second hub has gone so far, and so far it was not stopped
abbrev pub invariant-loop-i : goal.invariant-loop-i
invariant-loop-i l = record {
  gone : RunsAgain l.hub l.second l.i;
  none : (k : ℕ) → k < l.i + 1 → HasComeBehind l.at (text_of l.hub.course.program) (take k l.hub.course.items) → ⊥;
}
