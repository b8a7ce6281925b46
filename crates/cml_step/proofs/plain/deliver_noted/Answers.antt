use Rattle.cml_step.proofs.StackLemmas.{delivered_call}
use Rattle.cml_step.proofs.UndoLemmas.{fits_filled}
use Rattle.cml_step.proofs.plain.deliver_noted.Goals as goal

pub returns-clause-meant : goal.returns-clause-meant
returns-clause-meant c = λ on below.
    delivered_call c.args.program.now c.function-f.result.now c.args.call.now c.fill_noted.new.call c.args.value.now below c.requires.fits c.function-f.ensures.found
    c.function-f.ensures.fits.distinct c.fill_noted.ensures.place (c.fill_noted.ensures.runs on) (c.fill_noted.ensures.slots on)

pub returns-clause-fits : goal.returns-clause-fits
returns-clause-fits c =
    fits_filled c.args.program.now c.args.call.now c.fill_noted.new.call c.args.value.now c.fill_noted.result c.requires.fits c.requires.agrees c.fill_noted.ensures.place.0 c.fill_noted.ensures.slots
    c.fill_noted.ensures.runs c.fill_noted.ensures.stays
