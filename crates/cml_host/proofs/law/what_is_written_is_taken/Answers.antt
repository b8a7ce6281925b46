use Rattle.cml_host.proofs.OnwardLemmas.{is_taken}
use Rattle.cml_host.proofs.law.what_is_written_is_taken.Goals as goal

pub returns : goal.returns
returns c = is_taken c.has_one_reading.ensures c.written_is_read.ensures
