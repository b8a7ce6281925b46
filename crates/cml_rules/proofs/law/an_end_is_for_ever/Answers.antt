use Rattle.cml_rules.proofs.Stopping.{end_is_no_item, end_is_for_ever}
use Rattle.cml_rules.proofs.law.an_end_is_for_ever.Goals as goal

pub returns : goal.returns
returns c = record { no_item = end_is_no_item; for_ever = end_is_for_ever }
