use Rattle.std.proofs.Common.{◌+◌, ◌≤◌, length}
use Rattle.std.specs.List.{sum_by}
use Rattle.cml_judge.proofs.SpotLemmas.{Left}
use Rattle.cml_judge.proofs.spot.start_of.Given as goal

-- the next line begins there; and the lines that are left lie within the output
abbrev pub invariant-loop-line : goal.invariant-loop-line
invariant-loop-line l =
    Left l.output l.number l.count l.at l.lines.left × (l.at + sum_by (λ line. length line + 1) l.lines.left ≤ length l.output + 1)

abbrev pub decreases-loop-line : goal.decreases-loop-line
decreases-loop-line l = length l.lines.left
