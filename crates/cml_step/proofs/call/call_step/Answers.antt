use Rattle.std.proofs.Common.{sym, subst, ap, ◌∙◌}
use Rattle.cml_step.specs.Steps.{delivered}
use Rattle.cml_step.specs.Calls.{Moves, text_of, variables_of}
use Rattle.cml_step.proofs.CallLemmas.{steps_there, at_end}
use Rattle.cml_step.proofs.call.call_step.Goals as goal

pub returns-in-Some-clause-moves : goal.returns-in-Some-clause-moves
returns-in-Some-clause-moves c = λ below.
    let p = c.args.program.now in
    let f = c.args.f.now in
    subst (Moves p f c.instr_step.result c.instr_step.new.call below) (sym (steps_there (text_of p) c.args.thread.0 f c.args.call.now below c.requires.runs))
    (c.instr_step.ensures.moves below)

pub returns-in-None-clause-moves : goal.returns-in-None-clause-moves
returns-in-None-clause-moves c = λ below.
    let p = c.args.program.now in
    let f = c.args.f.now in
    steps_there (text_of p) c.args.thread.0 f c.args.call.now below c.requires.runs
    ∙ at_end (text_of p) c.args.thread.0 f (variables_of f c.args.call.now) below c.args.call.now.at c.in-None.ensures.follows
    ∙ ap (λ v. delivered v below) (sym c.new.ensures)
