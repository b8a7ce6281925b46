use Rattle.std.proofs.Common.{◌≡◌, map, take}
use Rattle.cml_scan.specs.declared.object.Light.TheVariants as of
use Rattle.cml_book.proofs.ticks.alarms_at.Given as goal

abbrev pub invariant-loop-tick : goal.invariant-loop-tick
invariant-loop-tick l = l.lights.items ≡ map of.Alarm (take l.tick-index l.ticks)
