use Rattle.std.proofs.lemmas.Slice.Eq.{slice_eq-Decides}
use Rattle.cml_schedule.proofs.Rows.{rows_decide}
use Rattle.cml_schedule.proofs.report.same_rows.Goals as goal

pub returns : goal.returns
returns c = slice_eq-Decides rows_decide c.args.these.now c.args.those.now c.eq.result c.eq.ensures
