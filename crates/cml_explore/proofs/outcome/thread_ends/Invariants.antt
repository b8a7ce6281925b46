use Rattle.std.proofs.Common.{◌≡◌, ◌++◌, drop}
use Rattle.std.specs.Prelude.{is_some}
use Rattle.cml_facts.specs.FallViews.{fall_in}
use Rattle.cml_explore.specs.Outcomes.{ends_from}
use Rattle.cml_explore.proofs.outcome.thread_ends.Given as goal

-- those so far, and those of the threads that are left
abbrev pub invariant-loop-t : goal.invariant-loop-t
invariant-loop-t l =
    let threads = l.hub.course.world.threads in
    l.ends.items ++ ends_from (λ t. is_some (fall_in l.falls t)) l.t (drop l.t threads) ≡ ends_from (λ t. is_some (fall_in l.falls t)) 0 threads
