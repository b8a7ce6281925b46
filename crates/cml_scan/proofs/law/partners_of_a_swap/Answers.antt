use Rattle.cml_scan.proofs.Partners.{scan-swap}
use Rattle.cml_scan.proofs.law.partners_of_a_swap.Goals as goal

pub returns : goal.returns
returns c = scan-swap
