use Rattle.std.proofs.Common.{ap, ◌∙◌}
use Rattle.cml_step.specs.Answers.{top_await}
use Rattle.cml_step.specs.Asks.{a_nack}
use Rattle.cml_step.specs.Calls.{text_of}
use Rattle.cml_step.specs.Machines.{machine_term}
use Rattle.cml_step.specs.Stacks.{term_of}
use Rattle.cml_step.proofs.AnswerLemmas.{answered_runs}
use Rattle.cml_step.proofs.machine.Machine.take_nack.Goals as goal

pub returns-clause-awaits : goal.returns-clause-awaits
returns-clause-awaits c = λ p f w.
    ap (λ hs. top_await (term_of p hs)) c.calling.ensures ∙ ap top_await (c.requires.meant p f) ∙ answered_runs (text_of p) (a_nack c.args.room.nack.0) (machine_term p c.args.self.now) w
