use Rattle.cml_scan.proofs.Partners.{scan-heads}
use Rattle.cml_scan.proofs.law.heads_are_lit_leaves_and_those_that_meet.Goals as goal

pub returns : goal.returns
returns c = scan-heads
