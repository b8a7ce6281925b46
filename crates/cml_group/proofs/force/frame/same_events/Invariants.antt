use Rattle.std.proofs.Common.{◌≡◌, ◌↔◌, drop, length}
use Rattle.cml_group.proofs.force.frame.same_events.Given as goal

-- what the loop has seen is the same, so the rest decides
abbrev pub invariant-loop-i : goal.invariant-loop-i
invariant-loop-i l = (length l.events ≡ length l.others) × ((l.events ≡ l.others) ↔ (drop l.i l.events ≡ drop l.i l.others))
