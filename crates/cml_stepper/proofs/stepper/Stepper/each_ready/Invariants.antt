use Rattle.std.proofs.Common.{◌≡◌, map, take}
use Rattle.cml_facts.specs.Turns.{began_in}
use Rattle.cml_stepper.specs.Questions.{ready_thread}
use Rattle.cml_stepper.specs.Steppers.{places_known}
use Rattle.cml_stepper.proofs.stepper.Stepper.each_ready.Given as goal

abbrev pub invariant-loop-thread : goal.invariant-loop-thread
invariant-loop-thread l = l.all.items ≡ map (ready_thread (places_known l.self) (began_in l.hub.course) l.spots) (take l.thread-index l.threads)
