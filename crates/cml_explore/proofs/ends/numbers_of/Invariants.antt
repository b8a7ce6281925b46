use Rattle.std.proofs.Common.{◌≡◌, map, take}
use Rattle.cml_explore.specs.Ends.{EndRank}
use Rattle.cml_explore.proofs.ends.numbers_of.Given as goal

-- those of the ranks so far
abbrev pub invariant-loop-rank : goal.invariant-loop-rank
invariant-loop-rank l = l.numbers.items ≡ map (λ (rank : EndRank). rank.2) (take l.rank-index l.ranks)
