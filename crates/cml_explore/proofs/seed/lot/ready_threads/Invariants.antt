use Rattle.std.proofs.Common.{◌≡◌, ◌++◌, drop}
use Rattle.cml_explore.specs.Lots.{ready_from}
use Rattle.cml_explore.proofs.seed.lot.ready_threads.Given as goal

-- those so far, and those among the threads that are left
abbrev pub invariant-loop-t : goal.invariant-loop-t
invariant-loop-t l =
    let threads = l.hub.course.world.threads in
    l.ready.items ++ ready_from l.t (drop l.t threads) ≡ ready_from 0 threads
