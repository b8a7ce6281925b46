use Rattle.std.proofs.Common.{◌≡◌, length}
use Rattle.cml_step.specs.Shared.{left_of}
use Rattle.cml_facts.specs.Frames.{calls_down}
use Rattle.cml_explore.proofs.below.next_call.Given as goal

-- no call was passed
abbrev pub invariant-entries : goal.invariant-entries
invariant-entries l = calls_down (left_of l.walk) ≡ calls_down (left_of l.fn.walk)

abbrev pub decreases-entries : goal.decreases-entries
decreases-entries l = length (left_of l.walk)
