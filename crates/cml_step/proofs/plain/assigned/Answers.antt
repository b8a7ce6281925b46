use Rattle.std.proofs.Common.{[], sym, ◌∙◌}
use Rattle.std.proofs.lemmas.Bool.{true≢false}
use Rattle.cml_step.proofs.QuietLemmas.{went, stayed}
use Rattle.cml_step.proofs.plain.assigned.Goals as goal

pub returns-clause-goes : goal.returns-clause-goes
returns-clause-goes c = λ on self below.
    went c.args.f.now c.assign.result c.args.call.now c.assign.new.call below _ (sym c.is_ok.ensures.value ∙ on) (c.assign.ensures.steps self below)

pub returns-clause-stays : goal.returns-clause-stays
returns-clause-stays c = λ off.
    stayed c.args.f.now c.assign.result c.args.call.now c.assign.new.call [] _ (sym c.is_ok.ensures.value ∙ off) (c.assign.ensures.steps 0 [])

pub returns-clause-noted : goal.returns-clause-noted
returns-clause-noted c = λ on. absurd (true≢false (sym on ∙ c.if-noting.false))
