use Rattle.std.proofs.Common.{map, take}
use Rattle.cml_host.specs.Outcomes.{AreFound}
use Rattle.cml_host.proofs.outcomes.find.Given as goal

-- those of the schedules so far
abbrev pub invariant-loop-schedule : goal.invariant-loop-schedule
invariant-loop-schedule l = AreFound l.program (map (λ schedule. schedule.items) (take l.schedule-index l.schedules)) l.found
