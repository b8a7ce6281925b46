use Rattle.cml_host.proofs.OnwardLemmas.{ends_alike}
use Rattle.cml_host.proofs.law.what_is_shorter_ends_alike.Goals as goal

pub returns : goal.returns
returns c = ends_alike
