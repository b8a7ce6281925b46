use Rattle.std.proofs.Common.{◌≡◌, take}
use Rattle.cml_explore.specs.Ends.{end_ranks_from}
use Rattle.cml_explore.proofs.ends.end_ranks_of.Given as goal

-- those of the classes so far
abbrev pub invariant-loop-end : goal.invariant-loop-end
invariant-loop-end l = l.ranks.items ≡ end_ranks_from 0 (take l.end-index l.told)
