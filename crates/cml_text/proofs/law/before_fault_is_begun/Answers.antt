use Rattle.cml_text.proofs.FaultLemmas.{before_fault_is_begun}
use Rattle.cml_text.proofs.law.before_fault_is_begun.Goals as goal

pub returns : goal.returns
returns c = before_fault_is_begun
