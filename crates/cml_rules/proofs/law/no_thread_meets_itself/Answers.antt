use Rattle.cml_rules.proofs.Choosing.{two_threads}
use Rattle.cml_rules.proofs.law.no_thread_meets_itself.Goals as goal

pub returns : goal.returns
returns c = two_threads
