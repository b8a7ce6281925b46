use Rattle.std.proofs.Common.{◌≡◌, length}
use Rattle.cml_step.specs.Shared.{left_of}
use Rattle.cml_facts.specs.Standings.{top_call}
use Rattle.cml_facts.proofs.ending.standing.top_call.Given as goal

-- the top call is among the entries that are left
abbrev pub invariant-entries : goal.invariant-entries
invariant-entries l = top_call (left_of l.walk) ≡ top_call l.machine.stack

abbrev pub decreases-entries : goal.decreases-entries
decreases-entries l = length (left_of l.walk)
