use Rattle.cml_verify.proofs.Views.{sees_schedules}
use Rattle.cml_verify.proofs.search.law.a_view_has_the_same_schedules.Goals as goal

pub returns : goal.returns
returns g c = sees_schedules
