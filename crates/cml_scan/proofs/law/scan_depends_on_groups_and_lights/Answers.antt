use Rattle.cml_scan.proofs.Told.{scan-depends}
use Rattle.cml_scan.proofs.law.scan_depends_on_groups_and_lights.Goals as goal

pub returns : goal.returns
returns c = scan-depends
