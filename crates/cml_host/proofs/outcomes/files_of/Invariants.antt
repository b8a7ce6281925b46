use Rattle.std.proofs.Common.{◌≡◌, map, take}
use Rattle.cml_host.specs.Outcomes.{files_of, plain_outcome_told}
use Rattle.cml_host.specs.Replies.{plain_file}
use Rattle.cml_host.proofs.outcomes.files_of.Given as goal

-- those so far
abbrev pub invariant-loop-index : goal.invariant-loop-index
invariant-loop-index l = map plain_file l.files.items ≡ files_of l.start l.program 1 (map plain_outcome_told (take l.index l.told))
