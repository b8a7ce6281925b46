use Rattle.std.proofs.Common.{◌≡◌, ◌+◌, ◌≤◌, max, drop}
use Rattle.cml_value.specs.Value.{events}
use Rattle.cml_value.specs.Limits.{events_depth, events_nodes}
use Rattle.cml_value.specs.Sizes.{kept}
use Rattle.cml_value.proofs.value.sizes.events_size.Given as goal

-- what those so far and those of the rest keep is what all keep
abbrev pub invariant-loop-e : goal.invariant-loop-e
invariant-loop-e l =
    (kept (max l.size.depth (events_depth (events (drop l.e-index l.all)))) ≡ kept (events_depth (events l.all)))
    × (kept (l.size.nodes + events_nodes (events (drop l.e-index l.all))) ≡ kept (events_nodes (events l.all)))
    × (l.size.depth ≤ 18446744073709551615)
    × (l.size.nodes ≤ 18446744073709551615)
