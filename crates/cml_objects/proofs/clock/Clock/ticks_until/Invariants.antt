use Rattle.std.proofs.Common.{◌≡◌, ◌++◌}
use Rattle.std.specs.Map.{keys_of}
use Rattle.cml_objects.proofs.clock.Clock.ticks_until.Given as goal

abbrev pub invariant-loop-tick : goal.invariant-loop-tick
invariant-loop-tick l = l.ticks.items ++ keys_of l.tick-iterator ≡ keys_of l.initial.tick-iterator
