use Rattle.std.proofs.Common.{◌≡◌, drop}
use Rattle.std.specs.Prelude.{fold}
use Rattle.cml_verify.specs.Digests.{stack_mixed}
use Rattle.cml_verify.proofs.digest.with_machines.Given as goal

abbrev pub invariant-loop-machine : goal.invariant-loop-machine
invariant-loop-machine l = fold (λ d m. stack_mixed d m.stack) l.all (drop l.machine-index l.machines) ≡ fold (λ d m. stack_mixed d m.stack) l.fn.digest l.machines
