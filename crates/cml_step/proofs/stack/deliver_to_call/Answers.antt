use Rattle.cml_step.proofs.StackLemmas.{delivered_call}
use Rattle.cml_step.proofs.stack.deliver_to_call.Goals as goal

pub returns-clause-meant : goal.returns-clause-meant
returns-clause-meant c = λ below.
    delivered_call c.args.program.now c.function-f.result.now c.args.call.now c.fill.new.call c.args.value below c.requires.fits c.function-f.ensures.found
    c.function-f.ensures.fits.distinct c.fill.ensures.place c.fill.ensures.runs c.fill.ensures.slots
