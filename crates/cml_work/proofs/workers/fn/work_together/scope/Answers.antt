use Rattle.cml_work.proofs.Crossing.{all_cross}
use Rattle.cml_work.proofs.HubCrossing.{shared_sync}
use Rattle.cml_work.proofs.workers.fn.work_together.scope.Goals as goal

pub spawn-requires-send-F : goal.spawn-requires-send-F
spawn-requires-send-F g c κs within = search (all_cross, shared_sync) depth 60 fits 100000
