use Rattle.std.proofs.Common.{map}
use Rattle.cml_step.specs.Calls.{text_of}
use Rattle.cml_verify.specs.{Cores.{program_system}, Kept.{core_kept}, Ends.{AreSchedulesTo}}
use Rattle.cml_verify.proofs.every.schedules_to.Given as goal

abbrev pub invariant-loop-place : goal.invariant-loop-place
invariant-loop-place l =
    AreSchedulesTo (program_system (text_of l.system.program) l.system.with_output) (map (core_kept l.system.program) l.found.kept.keys) l.places l.place-index
    (map (λ schedule. schedule.items) l.schedules.items)
