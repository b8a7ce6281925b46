use Rattle.std.proofs.Common.{ap, ◌∙◌}
use Rattle.cml_check.specs.InOrder.{arities}
use Rattle.cml_check.specs.Ops.{flat_expr}
use Rattle.cml_step.specs.Agrees.{all_agree}
use Rattle.cml_step.proofs.PlainLemmas.{number_set, number_agrees}
use Rattle.cml_step.proofs.plain.flat_set.Goals as goal

pub returns-clause-goes : goal.returns-clause-goes
returns-clause-goes c =
    let set = c.set_number.ensures in
    let on = c.if-not-set_number.false in
    number_set c.args.f.now (arities c.args.program.now) c.args.at c.args.slots.now c.requires.distinct (flat_expr c.args.e.now) c.requires.fits
    c.args.slot c.args.next c.in_ok-value.value c.set_number.new.slots c.requires.here c.requires.slot (set.there on) c.in_ok-value.ensures.gives (set.set on)

pub returns-clause-agree : goal.returns-clause-agree
returns-clause-agree c = λ fs h. number_agrees fs c.args.slots.now c.set_number.new.slots c.args.slot c.in_ok-value.value
    (c.set_number.ensures.set c.if-not-set_number.false) (c.in_ok-value.ensures.agrees fs) h

pub returns-then-not-set_number-clause-agree : goal.returns-then-not-set_number-clause-agree
returns-then-not-set_number-clause-agree c = λ fs h. ap (all_agree fs) (c.set_number.ensures.stays c.if-not-set_number.true) ∙ h
