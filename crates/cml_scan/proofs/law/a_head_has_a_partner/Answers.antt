use Rattle.cml_scan.proofs.Firsts.{heads-partners}
use Rattle.cml_scan.proofs.law.a_head_has_a_partner.Goals as goal

pub returns : goal.returns
returns c = heads-partners
