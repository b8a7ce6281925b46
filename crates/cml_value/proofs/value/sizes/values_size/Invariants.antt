use Rattle.std.proofs.Common.{◌≡◌, ◌+◌, ◌≤◌, max, drop}
use Rattle.cml_value.specs.Value.{values}
use Rattle.cml_value.specs.Limits.{values_depth, values_nodes}
use Rattle.cml_value.specs.Sizes.{kept}
use Rattle.cml_value.proofs.value.sizes.values_size.Given as goal

-- what those so far and those of the rest keep is what all keep
abbrev pub invariant-loop-v : goal.invariant-loop-v
invariant-loop-v l =
    (kept (max l.size.depth (values_depth (values (drop l.v-index l.all)))) ≡ kept (values_depth (values l.all)))
    × (kept (l.size.nodes + values_nodes (values (drop l.v-index l.all))) ≡ kept (values_nodes (values l.all)))
    × (l.size.depth ≤ 18446744073709551615)
    × (l.size.nodes ≤ 18446744073709551615)
