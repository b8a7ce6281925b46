use Rattle.std.proofs.Common.{length}
use Rattle.cml_check.specs.InOrder.{arities, exprs_count}
use Rattle.cml_step.specs.Variables.{slot_value}
use Rattle.cml_step.proofs.AgreeLemmas.{answers_agree, answers_count, all_evaluate_agree, all_counted}
use Rattle.cml_step.proofs.call.values_in.Goals as goal

pub returns-clause-agree : goal.returns-clause-agree
returns-clause-agree c =
    answers_agree (arities c.args.program.now) _ _ c.evaluate_in.ensures
    (all_evaluate_agree (arities c.args.program.now) (length c.args.f.now.names) c.args.slots.now c.requires.agree c.args.es.now c.requires.fits)

pub returns-clause-count : goal.returns-clause-count
returns-clause-count c =
    answers_count (exprs_count c.args.es.now) _ _ c.evaluate_in.ensures (all_counted (slot_value c.args.slots.now) c.args.es.now)
