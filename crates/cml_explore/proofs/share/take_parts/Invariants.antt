use Rattle.cml_explore.specs.Merges.{ArePartsTaken}
use Rattle.cml_explore.proofs.share.take_parts.Given as goal

-- the parts so far
abbrev pub invariant-taking : goal.invariant-taking
invariant-taking l = ArePartsTaken l.program l.asked l.round l.count l.taken.items
