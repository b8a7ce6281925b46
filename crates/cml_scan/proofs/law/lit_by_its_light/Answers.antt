use Rattle.std.proofs.Common.{sym}
use Rattle.cml_scan.proofs.Told.{lit_by-light_of}
use Rattle.cml_scan.proofs.law.lit_by_its_light.Goals as goal

pub returns : goal.returns
returns c = λ w b. sym (lit_by-light_of w b)
