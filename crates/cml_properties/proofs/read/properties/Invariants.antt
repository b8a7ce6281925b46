use Rattle.std.proofs.Common.{◌+◌, ◌≤◌, length}
use Rattle.std.specs.List.{sum_by}
use Rattle.cml_properties.proofs.ReadLemmas.{SaysOn}
use Rattle.cml_properties.proofs.read.properties.Given as goal

-- what the lines that are left say, behind what was found, the whole text says; and they lie within it
abbrev pub invariant-loop-line : goal.invariant-loop-line
invariant-loop-line l =
    SaysOn l.text l.found.items l.at l.lines.left × (l.at + sum_by (λ line. length line + 1) l.lines.left ≤ length l.text + 1) × (length l.text ≤ 1048576)

abbrev pub decreases-loop-line : goal.decreases-loop-line
decreases-loop-line l = length l.lines.left
