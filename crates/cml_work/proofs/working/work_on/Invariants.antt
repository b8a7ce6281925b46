use Rattle.std.proofs.Common.{◌≡◌}
use Rattle.cml_step.specs.Answers.{top_await, nothing}
use Rattle.cml_step.specs.Machines.{machine_term, Fits}
use Rattle.cml_work.proofs.working.work_on.Given as goal

-- the next job is one that the desk may hand out
abbrev pub invariant-loop : goal.invariant-loop
invariant-loop g l =
    Fits l.job.0 l.job.1
    × (top_await (machine_term l.job.0 l.job.1) ≡ nothing)
    × g.D.Desk.hands l.fn.desk l.job.0 l.job.1
