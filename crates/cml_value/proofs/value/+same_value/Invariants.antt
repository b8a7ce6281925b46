use Rattle.std.proofs.Common.{◌≡◌, ◌↔◌, drop, length}
use Rattle.cml_value.specs.Value.{values, events}
use Rattle.cml_value.proofs.value.+same_value.Given as goal

-- what the loop has seen is the same, so the rest decides
abbrev pub invariant-Event::same-loop-i : goal.invariant-Event::same-loop-i
invariant-Event::same-loop-i l =
    (length l.es.value.items ≡ length l.fs.value.items)
    × ((events l.es.value.items ≡ events l.fs.value.items) ↔ (events (drop l.i l.es.value.items) ≡ events (drop l.i l.fs.value.items)))

abbrev pub invariant-FnRef::same-loop-i : goal.invariant-FnRef::same-loop-i
invariant-FnRef::same-loop-i l =
    (length l.self-inside.args.value.all.items ≡ length l.other-inside.args.value.all.items)
    × ((values l.self-inside.args.value.all.items ≡ values l.other-inside.args.value.all.items)
    ↔ (values (drop l.i l.self-inside.args.value.all.items) ≡ values (drop l.i l.other-inside.args.value.all.items)))
