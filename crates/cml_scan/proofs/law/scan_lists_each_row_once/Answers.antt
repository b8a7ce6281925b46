use Rattle.cml_scan.proofs.Ordering.{scan-once}
use Rattle.cml_scan.proofs.law.scan_lists_each_row_once.Goals as goal

pub returns : goal.returns
returns c = scan-once
