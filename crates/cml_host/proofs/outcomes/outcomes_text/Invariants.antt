use Rattle.std.proofs.Common.{◌≡◌, map, take}
use Rattle.std.specs.List.{flat_map}
use Rattle.cml_host.specs.Outcomes.{plain_outcome_told, told_line}
use Rattle.cml_host.proofs.outcomes.outcomes_text.Given as goal

-- those so far
abbrev pub invariant-loop-one : goal.invariant-loop-one
invariant-loop-one l = l.text.items ≡ flat_map told_line (map plain_outcome_told (take l.one-index l.told))
