-- The code of what a thread waits for: a tree of numbers from which it can be read back. The toolchain asks for it; no rule uses it.
use Rattle.std.specs.Prelude.{ℕ, List, Option, refl}
use Rattle.std.specs.Coded.{Coded, code_by, coded×, coded_list, coded_option, coded_ℕ}
use Rattle.cml_value.specs.Value.{PlainFunction, PlainBase}
use Rattle.cml_value.specs.Codes.{function_code, base_code}
use Rattle.cml_phrase.specs.declared.event.ObjectState.{ObjectState}
use Rattle.cml_phrase.specs.contracts.event.ObjectState as object_state
use Rattle.cml_facts.specs.declared.ending.awaited.Named.{Named}
use Rattle.cml_facts.specs.declared.ending.awaited.AwaitedEvent.{AwaitedEvent}
use Rattle.cml_facts.specs.Waits.{PlainAwaited}

abbrev pub named_code : Coded Named
named_code =
    code_by (ℕ × Option PlainFunction) (coded× coded_ℕ (coded_option function_code)) (λ n. (n.thread, n.began)) (λ p. record { thread = p.0; began = p.1 }) (λ _. refl)

abbrev pub awaited_event_code : Coded AwaitedEvent
awaited_event_code =
    code_by (PlainBase × (ObjectState × Option Named)) (coded× base_code (coded× object_state.the_row.coded (coded_option named_code)))
    (λ e. (e.base, (e.state, e.behind)))
    (λ p. record { base = p.0; state = p.1.0; behind = p.1.1 })
    (λ _. refl)

abbrev pub awaited_code : Coded PlainAwaited
awaited_code =
    code_by (List AwaitedEvent × ℕ) (coded× (coded_list awaited_event_code) coded_ℕ) (λ a. (a.events, a.count)) (λ p. record { events = p.0; count = p.1 }) (λ _. refl)
