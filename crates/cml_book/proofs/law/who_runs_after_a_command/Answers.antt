use Rattle.cml_book.proofs.Running.{runs-step}
use Rattle.cml_book.proofs.law.who_runs_after_a_command.Goals as goal

pub returns : goal.returns
returns c = runs-step
