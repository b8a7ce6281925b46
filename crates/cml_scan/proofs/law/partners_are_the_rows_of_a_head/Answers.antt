use Rattle.cml_scan.proofs.Firsts.{partners-members}
use Rattle.cml_scan.proofs.Ordering.{partners-ordered}
use Rattle.cml_scan.proofs.law.partners_are_the_rows_of_a_head.Goals as goal

pub returns-clause-members : goal.returns-clause-members
returns-clause-members c = partners-members

pub returns-clause-order : goal.returns-clause-order
returns-clause-order c = partners-ordered
