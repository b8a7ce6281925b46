use Rattle.cml_verify.proofs.Local.{keeps_quiet}
use Rattle.cml_verify.proofs.search.law.local_turns_are_quiet.Goals as goal

pub returns : goal.returns
returns g c m listed local = keeps_quiet m listed local
