use Rattle.cml_check.specs.InOrder.{arities}
use Rattle.cml_step.proofs.CallLemmas.{runs_on_stays}
use Rattle.cml_step.proofs.call.let_step.Goals as goal

pub returns-in-Value-clause-moves : goal.returns-in-Value-clause-moves
returns-in-Value-clause-moves c = λ below.
    rw c.in-Value.is
    (c.went_on.ensures.moves c.args.program.now c.args.f.now c.args.call.now c.assign.new.call below _ (c.assign.ensures.steps c.args.thread.0 below))

pub returns-in-Value-clause-stays : goal.returns-in-Value-clause-stays
returns-in-Value-clause-stays c =
    let fs = arities c.args.program.now in
    runs_on_stays fs c.args.f.now c.went_on.result c.args.call.now c.assign.new.call c.assign.ensures.kept (c.went_on.ensures.did fs)
