use Rattle.cml_hub.proofs.turn.take_turn.Goals as goal

pub returns-in-Err-clause-err : goal.returns-in-Err-clause-err
returns-in-Err-clause-err c = (c.put_back.ensures c.args.machine.now c.in_ok-steps.ensures.undo, c.in-Err.ensures.err)
