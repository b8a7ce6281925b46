use Rattle.std.proofs.Common.{◌≡◌, ◌↔◌, drop, length}
use Rattle.cml_group.proofs.force.done.same_groups.Given as goal

-- what the loop has seen is the same, so the rest decides
abbrev pub invariant-loop-i : goal.invariant-loop-i
invariant-loop-i l = (length l.groups ≡ length l.others) × ((l.groups ≡ l.others) ↔ (drop l.i l.groups ≡ drop l.i l.others))
