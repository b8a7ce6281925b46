use Rattle.cml_step.proofs.call.let_effect.Goals as goal

pub returns-clause-moves : goal.returns-clause-moves
returns-clause-moves c = λ below. rw (← c.pad.ensures.same c.args.f.now.names) (c.perform.ensures.moves below)
