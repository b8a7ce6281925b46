use Rattle.std.proofs.Common.{length}
use Rattle.cml_check.specs.InOrder.{arities}
use Rattle.cml_check.specs.Ops.{flat_expr}
use Rattle.cml_step.proofs.AgreeLemmas.{message_agrees, evaluate_agrees}
use Rattle.cml_step.proofs.asking.message_of_call.Goals as goal

pub returns-clause-agrees : goal.returns-clause-agrees
returns-clause-agrees c =
    message_agrees (arities c.args.program.now) _ _ c.message.ensures
    (evaluate_agrees (arities c.args.program.now) (length c.args.f.now.names) c.args.slots.now c.requires.agree (flat_expr c.args.e.now) c.requires.fits)
