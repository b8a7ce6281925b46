use Rattle.cml_scan.proofs.Leaving.{scan-without}
use Rattle.cml_scan.proofs.law.scan_after_threads_leave.Goals as goal

pub returns : goal.returns
returns c = scan-without
