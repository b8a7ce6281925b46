use Rattle.std.proofs.Common.{◌≡◌, take}
use Rattle.cml_explore.specs.Ranks.{ranks_from}
use Rattle.cml_explore.proofs.rank.unsorted.Given as goal

-- those of the classes so far
abbrev pub invariant-loop-k : goal.invariant-loop-k
invariant-loop-k l = l.ranks.items ≡ ranks_from 0 (take l.k l.classes)
