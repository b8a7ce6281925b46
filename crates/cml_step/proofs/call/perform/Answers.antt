use Rattle.std.proofs.Common.{refl}
use Rattle.cml_check.specs.InOrder.{arities}
use Rattle.cml_step.proofs.call.perform.Goals as goal

pub returns-in-Act : goal.returns-in-Act
returns-in-Act c = record {
  moves = λ below. rw c.in-Act.is (c.effect_alone.ensures.moves c.args.program.now c.args.f.now c.args.call.now c.args.thread.0 below);
  stays = record {
    agree = c.requires.sound.agree;
    waits = c.requires.waits;
    agrees = c.effect_alone.ensures.did (arities c.args.program.now);
    same = refl;
  };
}

pub returns-in-ActOnOne-clause-moves : goal.returns-in-ActOnOne-clause-moves
returns-in-ActOnOne-clause-moves c = λ below. rw c.in-ActOnOne.is (c.effect_on_one.ensures.moves c.args.thread.0 below)

pub returns-in-ActOnTwo-clause-moves : goal.returns-in-ActOnTwo-clause-moves
returns-in-ActOnTwo-clause-moves c = λ below. rw c.in-ActOnTwo.is (c.effect_on_two.ensures.moves c.args.thread.0 below)

pub returns-in-Call-clause-moves : goal.returns-in-Call-clause-moves
returns-in-Call-clause-moves c = λ below. rw c.in-Call.is (c.call_effect.ensures.moves c.args.thread.0 below)

pub returns-in-Spawn-clause-moves : goal.returns-in-Spawn-clause-moves
returns-in-Spawn-clause-moves c = λ below. rw c.in-Spawn.is (c.spawn_effect.ensures.moves c.args.thread.0 below)
