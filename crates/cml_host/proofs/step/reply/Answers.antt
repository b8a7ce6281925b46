use Rattle.std.proofs.Common.{inl, inr}
use Rattle.std.proofs.KnownBytes.{Keeps-refl}
use Rattle.cml_host.proofs.SayLemmas.{on_err}
use Rattle.cml_host.proofs.step.reply.Goals as goal

pub returns-in_err-answer-clause-err : goal.returns-in_err-answer-clause-err
returns-in_err-answer-clause-err g c = on_err c.from_residual.result _ (inl (Keeps-refl _))

pub returns-in_err-text-clause-err : goal.returns-in_err-text-clause-err
returns-in_err-text-clause-err g c = on_err c.from_residual-in_err-text.result _ (inl (Keeps-refl _))

pub returns-in_err-send-clause-err : goal.returns-in_err-send-clause-err
returns-in_err-send-clause-err g c =
    on_err c.from_residual-in_err-send.result _
    (inr (c.ends-ends.result, c.answer.new.hub, (c.in_ok-answer.answer, c.in_ok-answer.ensures.answers, c.ends-ends.ensures), c.send.ensures.wrote))

pub returns-clause-ok : goal.returns-clause-ok
returns-clause-ok g c = ((c.in_ok-answer.answer, c.in_ok-answer.ensures.answers, c.ends-ends.ensures), c.send.ensures.wrote)
