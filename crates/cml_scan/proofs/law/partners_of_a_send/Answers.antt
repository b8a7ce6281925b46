use Rattle.cml_scan.proofs.Partners.{scan-send}
use Rattle.cml_scan.proofs.law.partners_of_a_send.Goals as goal

pub returns : goal.returns
returns c = scan-send
