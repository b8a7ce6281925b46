use Rattle.std.proofs.Common.{subst}
use Rattle.cml_check.specs.InOrder.{arities}
use Rattle.cml_group.specs.Asks.{Asks}
use Rattle.cml_group.specs.Force.{unforced}
use Rattle.cml_group.specs.declared.force.Next.{Next}
use Rattle.cml_step.proofs.ForceLemmas.{guard_called}
use Rattle.cml_step.proofs.stack.step_of_force.Goals as goal

pub returns-in_ok-args-in-Call-clause-did : goal.returns-in_ok-args-in-Call-clause-did
returns-in_ok-args-in-Call-clause-did c =
    guard_called (arities c.args.program.now) c.args.forcing.now c.in-Call.f c.func.result c.args-in-Call.result.now c.in_ok-args-in-Call.args.items c.requires.fits
    (subst (λ (n : Next). Asks n (unforced c.args.forcing.now)) c.in-Call.is c.in_ok-f.ensures) c.func.ensures c.args-in-Call.ensures c.in_ok-args-in-Call.ensures
