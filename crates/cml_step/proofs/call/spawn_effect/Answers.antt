use Rattle.std.proofs.Common.{ap, ◌∙◌}
use Rattle.cml_check.specs.InOrder.{arities, exprs_count}
use Rattle.cml_step.specs.Agrees.{function_agrees}
use Rattle.cml_step.proofs.AgreeLemmas.{called_agrees}
use Rattle.cml_step.proofs.call.spawn_effect.Goals as goal

pub returns-clause-did : goal.returns-clause-did
returns-clause-did c =
    ap (function_agrees (arities c.args.program.now) 0) c.in_ok-function.ensures.ok
    ∙ called_agrees (arities c.args.program.now) c.args.func (exprs_count c.args.es.now) c.in_ok-args.args.items c.requires.takes c.in_ok-args.ensures.count c.in_ok-args.ensures.agree
