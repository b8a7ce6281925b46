use Rattle.std.proofs.Common.{◌-◌}
use Rattle.cml_explore.proofs.ExploreLemmas.{MadeSoFar}
use Rattle.cml_explore.proofs.share.make_part.Given as goal

-- the runs so far
abbrev pub invariant-making : goal.invariant-making
invariant-making l = MadeSoFar l.program l.asked l.made

abbrev pub decreases-making : goal.decreases-making
decreases-making l = l.asked.runs - l.made.runs
