use Rattle.std.proofs.Common.{length, ap, ◌∙◌}
use Rattle.cml_check.specs.InOrder.{arities}
use Rattle.cml_check.specs.Ops.{offer_expr}
use Rattle.cml_check.specs.declared.syntax.ActOnOne.TheVariants as one_of
use Rattle.cml_step.specs.Steps.{◌>>=◌, one_step}
use Rattle.cml_step.proofs.AgreeLemmas.{offer_agrees, evaluate_agrees}
use Rattle.cml_step.proofs.VariableLemmas.{evaluate_named}
use Rattle.cml_step.proofs.sync.sync_in.Goals as goal

pub returns-clause-gives : goal.returns-clause-gives
returns-clause-gives c = λ on self term.
    let f = c.args.f.now in
    ap (λ r. r >>= (λ v. one_step one_of.Sync v term))
    (evaluate_named f.names c.args.slots.now c.requires.function.distinct (arities c.args.program.now) (offer_expr c.args.offer.now) c.requires.fits ∙ c.put_offer.ensures.found on)

pub returns-clause-agrees : goal.returns-clause-agrees
returns-clause-agrees c =
    λ on. offer_agrees (arities c.args.program.now) _ _ (c.put_offer.ensures.found on)
    (evaluate_agrees (arities c.args.program.now) (length c.args.f.now.names) c.args.slots.now c.requires.agree (offer_expr c.args.offer.now) c.requires.fits)
