use Rattle.std.proofs.Common.{map}
use Rattle.cml_step.specs.Calls.{text_of}
use Rattle.cml_verify.specs.{Cores.{program_system}, Kept.{core_kept}, Falling.{AreSchedulesBy}}
use Rattle.cml_verify.proofs.faults.schedules_by.Given as goal

abbrev pub invariant-loop-one : goal.invariant-loop-one
invariant-loop-one l =
    AreSchedulesBy (program_system (text_of l.system.program) l.system.with_output) (map (core_kept l.system.program) l.found.kept.keys) l.told l.one-index
    (map (λ schedule. schedule.items) l.schedules.items)
