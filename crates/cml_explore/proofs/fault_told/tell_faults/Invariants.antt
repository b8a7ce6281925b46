use Rattle.std.proofs.Common.{map, take}
use Rattle.cml_phrase.specs.Spots.{all_places}
use Rattle.cml_explore.specs.FaultsTold.{AreFaultsTold}
use Rattle.cml_explore.proofs.fault_told.tell_faults.Given as goal

-- those so far
abbrev pub invariant-loop-schedule : goal.invariant-loop-schedule
invariant-loop-schedule l = AreFaultsTold (all_places l.text l.forms) l.program (map (λ schedule. schedule.items) (take l.schedule-index l.schedules)) l.told.items
