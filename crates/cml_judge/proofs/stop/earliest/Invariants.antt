use Rattle.std.proofs.Common.{◌≡◌, drop}
use Rattle.cml_judge.specs.Stops.{earlier, earliest}
use Rattle.cml_judge.proofs.stop.earliest.Given as goal

-- of the first so far and the first of those that are left the first
abbrev pub invariant-loop-line : goal.invariant-loop-line
invariant-loop-line l = earlier l.first (earliest (drop l.line-index l.lines)) ≡ earliest l.lines
