use Rattle.cml_scan.proofs.Told.{scan_of-told}
use Rattle.cml_scan.proofs.law.scan_of_what_was_told.Goals as goal

pub returns : goal.returns
returns c = scan_of-told
