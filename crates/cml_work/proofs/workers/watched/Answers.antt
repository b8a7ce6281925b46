use denote.Exit.{no}
use denote.Param.Send.{arg_send, param_send, shr_send, mut_send}
use Rattle.std.proofs.Crossing.{sync as heap_sync}
use Rattle.cml_work.proofs.HubCrossing.{shared_sync, counting_send, captured_send}
use Rattle.cml_work.proofs.workers.watched.Goals as goal

pub join_mut-requires-send-F : goal.join_mut-requires-send-F
join_mut-requires-send-F g c κs within =
    let b = c.type_bounds in
    let s = shared_sync _ _ g.O.Opening g.C.Chooser b.send-O b.send-C in
    let w = counting_send _ _ b.send-W in
    param_send 1 _ (arg_send _ no _ (captured_send _ _ _ _ _ (shr_send _ _ _ b.sync-R) (shr_send _ _ _ heap_sync) (shr_send _ _ _ s) (mut_send _ _ _ w)))
