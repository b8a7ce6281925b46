use Rattle.std.proofs.Common.{◌-◌}
use Rattle.cml_explore.proofs.ExploreLemmas.{MadeSoFar}
use Rattle.cml_explore.proofs.explored.explore.Given as goal

-- the runs so far
abbrev pub invariant-going : goal.invariant-going
invariant-going l = MadeSoFar l.program l.asked l.made

abbrev pub decreases-going : goal.decreases-going
decreases-going l = l.asked.runs - l.made.runs
