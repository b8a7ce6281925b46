use Rattle.cml_check.specs.InOrder.{arities}
use Rattle.cml_check.specs.Ops.{flat_expr}
use Rattle.cml_step.proofs.PlainLemmas.{number_holds, number_fails}
use Rattle.cml_step.proofs.plain.flat_test.Goals as goal

pub returns-then-holds : goal.returns-then-holds
returns-then-holds c =
    number_holds c.args.f.now (arities c.args.program.now) c.args.at c.args.slots.now c.requires.distinct (flat_expr c.args.e.now) c.requires.fits
    c.args.first c.args.second c.in_ok-holds.holds c.requires.here c.in_ok-holds.ensures c.if-holds.true

pub returns : goal.returns
returns c =
    number_fails c.args.f.now (arities c.args.program.now) c.args.at c.args.slots.now c.requires.distinct (flat_expr c.args.e.now) c.requires.fits
    c.args.first c.args.second c.in_ok-holds.holds c.requires.here c.in_ok-holds.ensures c.if-holds.false
