use Rattle.cml_scan.proofs.Firsts.{heads-members}
use Rattle.cml_scan.proofs.Firsts.{heads-ordered}
use Rattle.cml_scan.proofs.law.heads_begin_the_rows.Goals as goal

pub returns-clause-members : goal.returns-clause-members
returns-clause-members c = heads-members

pub returns-clause-order : goal.returns-clause-order
returns-clause-order c = heads-ordered
