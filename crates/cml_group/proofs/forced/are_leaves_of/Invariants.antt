use Rattle.std.proofs.Common.{◌≡◌, drop, length}
use Rattle.cml_value.specs.Value.{events}
use Rattle.cml_value.specs.Group.{groups}
use Rattle.cml_group.specs.Force.{events_of}
use Rattle.cml_group.proofs.forced.are_leaves_of.Given as goal

-- what the loop has seen is the same, so the rest decides
abbrev pub invariant-loop-i : goal.invariant-loop-i
invariant-loop-i l =
    (length l.members ≡ length l.others)
    × (events_of (groups (drop l.i l.others)) ≡ events (drop l.i l.members) → events_of (groups l.others) ≡ events l.members)
