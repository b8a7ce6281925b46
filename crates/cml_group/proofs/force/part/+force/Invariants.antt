use Rattle.std.proofs.Common.{◌≡◌, ◌+◌, ◌*◌, ◌++◌, drop}
use Rattle.cml_value.specs.Value.{events}
use Rattle.cml_value.specs.Heights.{event_height, events_height}
use Rattle.cml_group.specs.Frames.{choice}
use Rattle.cml_group.proofs.force.part.+force.Given as goal

abbrev pub decreases-force : goal.decreases-force
decreases-force l = 2 * event_height l.event.now + 1

abbrev pub decreases-force_members : goal.decreases-force_members
decreases-force_members l = 2 * events_height (events l.members.now.value.items)

-- those forced so far and those to come are the choice
abbrev pub invariant-force_members-loop-i : goal.invariant-force_members-loop-i
invariant-force_members-loop-i l =
    choice (l.done ++ l.gained.items) (drop l.i l.members.value.items) ≡ choice (l.done ++ l.initial.gained.items) (drop l.next l.members.value.items)
