use Rattle.cml_stepper.specs.Steppers.{places_known}
use Rattle.cml_stepper.proofs.ReplyLemmas.{done_keeps}
use Rattle.cml_stepper.proofs.stepper.Stepper.answer.Goals as goal

pub returns-clause-answers : goal.returns-clause-answers
returns-clause-answers c = (c.in_ok-what.what, c.in_ok-what.ensures, c.in_ok-reply.ensures.does)

pub returns-clause-program : goal.returns-clause-program
returns-clause-program c = let kept = done_keeps (places_known c.args.self.now) c.in_ok-what.what c.args.hub.now c.react.new.hub c.in_ok-reply.reply c.in_ok-reply.ensures.does in kept.0

pub returns-clause-budget : goal.returns-clause-budget
returns-clause-budget c = let kept = done_keeps (places_known c.args.self.now) c.in_ok-what.what c.args.hub.now c.react.new.hub c.in_ok-reply.reply c.in_ok-reply.ensures.does in kept.1
