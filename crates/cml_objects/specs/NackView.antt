-- The view of a nack, made from its one field.
use Rattle.cml_value.specs.Nack.{PlainNack, fresh_of, live, fired, held}
use Rattle.cml_objects.specs.declared.nack.State.{State}
use Rattle.cml_objects.specs.declared.nack.State.TheVariants as state

abbrev pub cell_of : State → PlainNack
cell_of (state.Fresh owner) = fresh_of owner.0
cell_of state.Live = live
cell_of state.Fired = fired
cell_of state.Held = held
