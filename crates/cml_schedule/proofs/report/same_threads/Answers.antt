use Rattle.std.proofs.Common.{map, ap}
use Rattle.std.proofs.lemmas.Slice.Eq.{slice_eq-Decides}
use Rattle.cml_schedule.proofs.Threads.{threads_same, thread_decides}
use Rattle.cml_schedule.proofs.report.same_threads.Goals as goal

pub returns : goal.returns
returns c =
    let same = slice_eq-Decides thread_decides c.args.these.now c.args.those.now c.eq.result c.eq.ensures in
    (λ is. ap (map (λ t. t.0)) (same.0 is), λ e. same.1 (threads_same _ _ e))
