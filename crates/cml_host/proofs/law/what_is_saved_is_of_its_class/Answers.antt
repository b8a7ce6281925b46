use Rattle.cml_host.proofs.OnwardLemmas.{saved_is}
use Rattle.cml_host.proofs.law.what_is_saved_is_of_its_class.Goals as goal

pub returns : goal.returns
returns c = saved_is c.a_class_keeps_a_schedule_of_its_own.ensures
