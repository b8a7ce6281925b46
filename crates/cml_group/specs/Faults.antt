-- When a group is not laid flat.
use Rattle.std.specs.Prelude.{◌≡◌, ◌<◌, ◌≤◌, false}
use Rattle.cml_value.specs.Group.{PlainGroup, leaf_count, group_fits}
use Rattle.cml_group.specs.LaidOut.{IsWithinLimits, max_leaves}
use Rattle.cml_group.specs.declared.fault.FlatFault.{FlatFault}
use Rattle.cml_group.specs.declared.fault.FlatFault.TheVariants.{Leaves, Deep, Memory}

-- Leaves comes for too many leaves, Deep for few enough leaves and too much depth or too many nodes, and Memory (memory
-- ran out) only for a group that is within all limits. Each hands the group back.
abbrev pub Refuses : FlatFault → PlainGroup → Type 0
Refuses (Leaves back) g = (max_leaves < leaf_count g) × (back ≡ g)
Refuses (Deep back) g = (leaf_count g ≤ max_leaves) × (group_fits g ≡ false) × (back ≡ g)
Refuses (Memory back) g = IsWithinLimits g × (back ≡ g)
