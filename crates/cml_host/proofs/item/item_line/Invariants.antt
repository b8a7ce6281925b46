use Rattle.std.proofs.Common.{ℕ, length}
use Rattle.cml_text.specs.Lines.{lines}
use Rattle.cml_host.specs.Plans.{IsLineBehind}
use Rattle.cml_host.proofs.item.item_line.Given as goal

-- the line that is sought among those that are left is the one that is sought among all
abbrev pub invariant-loop-at : goal.invariant-loop-at
invariant-loop-at l = (found : ℕ) → IsLineBehind l.left l.all.number l.all.left found → IsLineBehind l.others 1 (lines l.text) found

abbrev pub decreases-loop-at : goal.decreases-loop-at
decreases-loop-at l = length l.all.left
