use Rattle.std.proofs.Common.{◌≡◌, ◌++◌, length, map}
use Rattle.cml_step.specs.Shared.{left_of}
use Rattle.cml_facts.specs.Frames.{calls_down}
use Rattle.cml_facts.specs.FaultViews.{held_call}
use Rattle.cml_facts.proofs.fault.frame.calls_down.Given as goal

-- the calls so far are followed by those of the entries that are left
abbrev pub invariant-entries : goal.invariant-entries
invariant-entries l = map (λ call. held_call call.now) l.calls.items ++ calls_down (left_of l.walk) ≡ calls_down l.machine.stack

abbrev pub decreases-entries : goal.decreases-entries
decreases-entries l = length (left_of l.walk)
