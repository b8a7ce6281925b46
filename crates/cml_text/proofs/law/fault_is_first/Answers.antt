use Rattle.cml_text.proofs.FaultLemmas.{fault_is_first}
use Rattle.cml_text.proofs.law.fault_is_first.Goals as goal

pub returns : goal.returns
returns c = fault_is_first
