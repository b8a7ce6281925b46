use Rattle.cml_scan.proofs.Meeting.{one-head}
use Rattle.cml_scan.proofs.Meeting.{lower-head}
use Rattle.cml_scan.proofs.law.one_of_two_leaves_is_the_head.Goals as goal

pub returns-clause-one : goal.returns-clause-one
returns-clause-one c = one-head

pub returns-clause-lower : goal.returns-clause-lower
returns-clause-lower c = lower-head
