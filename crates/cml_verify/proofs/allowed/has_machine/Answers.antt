use Rattle.std.proofs.Common.{ap}
use Rattle.std.specs.Prelude.{is_some}
use Rattle.cml_verify.proofs.allowed.has_machine.Goals as goal

pub returns-in-Some : goal.returns-in-Some
returns-in-Some c = ap is_some (rw c.in-Some.is at c.machine.ensures.machine)

pub returns-in-None : goal.returns-in-None
returns-in-None c = ap is_some (rw c.in-None.is at c.machine.ensures.machine)
