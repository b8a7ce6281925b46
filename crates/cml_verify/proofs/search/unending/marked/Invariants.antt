use Rattle.std.proofs.Common.{◌+◌, not, length, map}
use Rattle.std.specs.Prelude.{count_by}
use Rattle.cml_verify.proofs.Marking.{MarksSoFar}
use Rattle.cml_verify.proofs.search.unending.marked.Given as goal

abbrev pub invariant-loop-more : goal.invariant-loop-more
invariant-loop-more g l =
    MarksSoFar (g.Y.System.rules l.system) (map (g.Y.System.state_of l.system) l.found.kept.keys) l.found.edges.items l.places (length l.found.kept.keys) l.more l.marks.items

abbrev pub decreases-loop-more : goal.decreases-loop-more
decreases-loop-more g l = count_by not l.marks.items + l.more
