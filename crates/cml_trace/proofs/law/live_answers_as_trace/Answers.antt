use Rattle.cml_trace.proofs.LiveLemmas.{live_answers_as_trace}
use Rattle.cml_trace.proofs.law.live_answers_as_trace.Goals as goal

pub returns : goal.returns
returns c = live_answers_as_trace
