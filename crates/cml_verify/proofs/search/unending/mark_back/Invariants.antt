use Rattle.std.proofs.Common.{map}
use Rattle.cml_verify.proofs.Marking.{WalksBack}
use Rattle.cml_verify.proofs.search.unending.mark_back.Given as goal

abbrev pub invariant-loop-at : goal.invariant-loop-at
invariant-loop-at g l =
    WalksBack (g.Y.System.rules l._system) (map (g.Y.System.state_of l._system) l.found.kept.keys) l.found.edges.items l.fn.marks.items l.at l.count l.marks.items

abbrev pub decreases-loop-at : goal.decreases-loop-at
decreases-loop-at g l = l.at
