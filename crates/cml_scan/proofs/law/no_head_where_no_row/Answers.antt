use Rattle.cml_scan.proofs.Firsts.{heads-none}
use Rattle.cml_scan.proofs.law.no_head_where_no_row.Goals as goal

pub returns : goal.returns
returns c = heads-none
