use Rattle.cml_scan.proofs.Firsts.{partners-rows}
use Rattle.cml_scan.proofs.law.a_picked_row_is_in_the_scan.Goals as goal

pub returns : goal.returns
returns c = λ rows k j p row at is. partners-rows rows p j row is
