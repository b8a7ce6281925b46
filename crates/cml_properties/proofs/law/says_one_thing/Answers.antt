use Rattle.cml_properties.proofs.OneThing.{says_one_thing}
use Rattle.cml_properties.proofs.law.says_one_thing.Goals as goal

pub returns : goal.returns
returns c = says_one_thing c.spelled_or_faulty.ensures c.spells_one_at_most.ensures c.spelled_has_no_fault.ensures
