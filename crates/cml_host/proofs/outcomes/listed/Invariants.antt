use Rattle.std.proofs.Common.{◌≡◌, map}
use Rattle.cml_host.specs.Outcomes.{plain_outcome_told, entry_told}
use Rattle.cml_host.proofs.outcomes.listed.Given as goal

-- those so far
abbrev pub invariant-loop-text : goal.invariant-loop-text
invariant-loop-text l = map plain_outcome_told l.told.items ≡ map entry_told l.yielded
