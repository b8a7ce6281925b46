use Rattle.std.proofs.Common.{◌≡◌, ◌↔◌, drop, length}
use Rattle.cml_value.specs.Group.{groups}
use Rattle.cml_value.proofs.group.Group.+same.Given as goal

-- what the loop has seen is the same, so the rest decides
abbrev pub invariant-loop-i : goal.invariant-loop-i
invariant-loop-i l =
    (length l.gs.value.items ≡ length l.hs.value.items)
    × ((groups l.gs.value.items ≡ groups l.hs.value.items) ↔ (groups (drop l.i l.gs.value.items) ≡ groups (drop l.i l.hs.value.items)))
