use Rattle.cml_scan.proofs.Enabling.{scan-members}
use Rattle.cml_scan.proofs.law.scan_lists_what_is_enabled.Goals as goal

pub returns : goal.returns
returns c = scan-members
