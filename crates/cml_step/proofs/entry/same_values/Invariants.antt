use Rattle.std.proofs.Common.{◌≡◌, ◌↔◌, drop, length}
use Rattle.cml_step.proofs.entry.same_values.Given as goal

-- what the loop has seen is the same, so the rest decides
abbrev pub invariant-loop-i : goal.invariant-loop-i
invariant-loop-i l = (length l.values ≡ length l.others) × ((l.values ≡ l.others) ↔ (drop l.i l.values ≡ drop l.i l.others))
