use Rattle.std.proofs.Common.{◌≡◌, ◌↔◌, drop, length}
use Rattle.cml_group.proofs.force.frame.same_frames.Given as goal

-- what the loop has seen is the same, so the rest decides
abbrev pub invariant-loop-i : goal.invariant-loop-i
invariant-loop-i l = (length l.frames ≡ length l.others) × ((l.frames ≡ l.others) ↔ (drop l.i l.frames ≡ drop l.i l.others))
