use Rattle.std.proofs.Common.{◌≡◌, take}
use Rattle.cml_verify.proofs.kept.machines.Given as goal

abbrev pub invariant-loop-t : goal.invariant-loop-t
invariant-loop-t l = l.machines.items ≡ take l.t l.hub.course.machines
