use Rattle.std.proofs.Common.{◌∙◌}
use Rattle.cml_step.specs.Calls.{text_of}
use Rattle.cml_step.proofs.CallLemmas.{steps_there}
use Rattle.cml_step.proofs.plain.instr_step.Goals as goal

pub returns-in-Some-clause-goes : goal.returns-in-Some-clause-goes
returns-in-Some-clause-goes c = λ on self below.
    steps_there (text_of c.args.program.now) self c.args.f.now c.args.call.now below c.requires.runs ∙ c.instr_done.ensures.goes on self below
