-- An event that was put over a call, to be forced.
use Rattle.std.specs.Prelude.{◌≡◌, Option, Some, false}
use Rattle.cml_value.specs.Value.{PlainEvent, never}
use Rattle.cml_step.specs.declared.entry.Entry.{Entry}
use Rattle.cml_step.specs.declared.entry.Entry.TheVariants as entry

-- the event that is being forced there, where one is
abbrev pub event_over : Option Entry → PlainEvent
event_over (Some (entry.Force e asked)) = e
event_over other = never

-- it stands there, and has not asked
abbrev pub IsPut : Option Entry → Type 0
IsPut over = over ≡ Some (entry.Force (event_over over) false)
