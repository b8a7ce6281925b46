-- No part stands as high as the whole.
use Rattle.std.specs.Prelude.{◌+◌, ◌≤◌, max, List, [], ◌∷◌}
use Rattle.std.proofs.Common.{arith}
use denote.Param.Weighed.{most}
use Rattle.cml_value.specs.Value.{PlainValue, PlainEvent, values, events}
use Rattle.cml_value.specs.Heights.{value_height, values_height, event_height, events_height}
use Rattle.cml_value.specs.Views.{plain_event}
use Rattle.cml_value.specs.declared.value.EventKind.{EventKind}
use Rattle.cml_value.specs.declared.value.EventKind.TheVariants as event_kind
use Rattle.cml_value.specs.declared.value.Base.TheDeep.{deep-EventKind}

pub most-values_height : (vs : List PlainValue) → most (λ v. value_height v + 1) vs ≤ values_height (values vs)
most-values_height [] = omega arith
most-values_height (v ∷ vs) = omega (arith, most-values_height vs)

pub most-events_height : (es : List PlainEvent) → most (λ e. event_height e + 1) es ≤ events_height (events es)
most-events_height [] = omega arith
most-events_height (e ∷ es) = omega (arith, most-events_height es)

pub deep_le-event_height : (k : EventKind) → max (deep-EventKind k) 0 ≤ event_height (plain_event k)
deep_le-event_height (event_kind.Choose es) = omega (arith, most-events_height es.value.items)
deep_le-event_height _ = omega arith
