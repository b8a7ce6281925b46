use Rattle.std.proofs.Common.{◌≡◌, ◌+◌, drop}
use Rattle.cml_value.specs.Value.{events}
use Rattle.cml_value.specs.Limits.{is_within, events_depth, events_nodes}
use Rattle.cml_group.proofs.force.frame.spend_from.Given as goal

-- what was spent is what the members so far have, and whether it is enough for all rests on the rest
abbrev pub invariant-loop-i : goal.invariant-loop-i
invariant-loop-i l =
    (l.budget + events_nodes (events (drop l.i l.members)) ≡ l.left + events_nodes (events (drop l.next l.members)))
    × (is_within l.depth l.left (events_depth (events (drop l.i l.members))) (events_nodes (events (drop l.i l.members)))
    ≡ is_within l.depth l.budget (events_depth (events (drop l.next l.members))) (events_nodes (events (drop l.next l.members))))
