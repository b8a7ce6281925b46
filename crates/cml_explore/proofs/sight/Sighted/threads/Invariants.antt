use Rattle.std.proofs.Common.{◌≡◌, ◌++◌, drop}
use Rattle.cml_explore.specs.SightViews.{plain_sight}
use Rattle.cml_explore.specs.Sights.{threads_told}
use Rattle.cml_explore.proofs.sight.Sighted.threads.Given as goal

-- those so far, and those of the threads that are left
abbrev pub invariant-loop-t : goal.invariant-loop-t
invariant-loop-t l =
    let threads = l.self.hub.now.course.world.threads in
    l.threads.items ++ threads_told (plain_sight l.self) l.t (drop l.t threads) ≡ threads_told (plain_sight l.self) 0 threads
