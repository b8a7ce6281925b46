-- How many values, events or groups one term of a list of them has.
use Rattle.std.proofs.Common.{◌≡◌, ℕ, suc, List, [], ◌∷◌, length, refl, ap}
use Rattle.cml_value.specs.Value.{PlainValue, PlainValues, no_values, values_and, values, PlainEvent, PlainEvents, no_events, events_and, events}
use Rattle.cml_value.specs.Group.{PlainGroup, PlainGroups, no_groups, groups_and, groups}

abbrev pub value_count : PlainValues → ℕ
value_count no_values = 0
value_count (values_and v vs) = suc (value_count vs)

pub length-values : (vs : List PlainValue) → length vs ≡ value_count (values vs)
length-values [] = refl
length-values (v ∷ vs) = ap suc (length-values vs)

abbrev pub event_count : PlainEvents → ℕ
event_count no_events = 0
event_count (events_and e es) = suc (event_count es)

pub length-events : (es : List PlainEvent) → length es ≡ event_count (events es)
length-events [] = refl
length-events (e ∷ es) = ap suc (length-events es)

abbrev pub group_count : PlainGroups → ℕ
group_count no_groups = 0
group_count (groups_and g gs) = suc (group_count gs)

pub length-groups : (gs : List PlainGroup) → length gs ≡ group_count (groups gs)
length-groups [] = refl
length-groups (g ∷ gs) = ap suc (length-groups gs)

pub ruleset part_counts = (length-values, length-events)

pub ruleset group_counts = (length-groups)
