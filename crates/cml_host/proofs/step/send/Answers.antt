use Rattle.cml_host.proofs.WriteLemmas.{writes_kept}
use Rattle.cml_host.proofs.step.send.Goals as goal

pub returns-in-Ok-clause-wrote : goal.returns-in-Ok-clause-wrote
returns-in-Ok-clause-wrote g c = writes_kept _ _ _ c.write_words.ensures.wrote c.flush.ensures.bytes

pub returns-in-Err-clause-wrote : goal.returns-in-Err-clause-wrote
returns-in-Err-clause-wrote g c = writes_kept _ _ _ c.write_words.ensures.wrote c.flush.ensures.bytes
