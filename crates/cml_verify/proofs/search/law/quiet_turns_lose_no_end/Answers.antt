use Rattle.cml_verify.proofs.Quiet.{each_end_is_seen}
use Rattle.cml_verify.proofs.search.law.quiet_turns_lose_no_end.Goals as goal

pub returns : goal.returns
returns g c = each_end_is_seen
