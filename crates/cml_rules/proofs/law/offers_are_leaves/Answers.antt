use Rattle.cml_rules.proofs.Offering.{offers_are_leaves}
use Rattle.cml_rules.proofs.law.offers_are_leaves.Goals as goal

pub returns : goal.returns
returns c = offers_are_leaves
