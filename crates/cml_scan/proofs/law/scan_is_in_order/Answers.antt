use Rattle.cml_scan.proofs.Ordering.{scan-ordered}
use Rattle.cml_scan.proofs.law.scan_is_in_order.Goals as goal

pub returns : goal.returns
returns c = scan-ordered
