use Rattle.cml_explore.proofs.LawLemmas.{keeps_its_own}
use Rattle.cml_explore.proofs.law.a_class_keeps_a_schedule_of_its_own.Goals as goal

pub returns : goal.returns
returns c = keeps_its_own
