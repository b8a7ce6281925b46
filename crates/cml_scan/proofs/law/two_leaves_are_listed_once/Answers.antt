use Rattle.cml_scan.proofs.Enabling.{scan-one_way}
use Rattle.cml_scan.proofs.law.two_leaves_are_listed_once.Goals as goal

pub returns : goal.returns
returns c = λ w a b i j. scan-one_way w a b i j
