use Rattle.std.proofs.Common.{◌≡◌, ◌++◌, drop}
use Rattle.cml_facts.specs.Details.{threads_details}
use Rattle.cml_facts.specs.FallViews.{fall_in}
use Rattle.cml_facts.proofs.fault.details.Ended.push_threads.Given as goal

-- what was said so far, and what is to be said of the threads that are left
abbrev pub invariant-loop-t : goal.invariant-loop-t
invariant-loop-t l =
    let threads = l.self.hub.now.course.world.threads in
    let falls = fall_in l.self.falls.now in
    l.details.items ++ threads_details l.self.hub.now.course falls l.t (drop l.t threads) ≡ l.fn.details.items ++ threads_details l.self.hub.now.course falls 0 threads
