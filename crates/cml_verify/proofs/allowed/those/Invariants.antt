use Rattle.std.proofs.Common.{◌≡◌, ◌++◌, drop}
use Rattle.std.specs.Prelude.{filter}
use Rattle.cml_hub.specs.Courses.{run_of}
use Rattle.cml_step.specs.Calls.{text_of}
use Rattle.cml_verify.specs.Cores.{can}
use Rattle.cml_verify.proofs.allowed.those.Given as goal

-- what was put there, and what can come of those that are left, are all that can come
abbrev pub invariant-loop-item : goal.invariant-loop-item
invariant-loop-item l =
    let p = text_of l.hub.course.program in
    let passes = can p (run_of l.hub.course) in
    l.these.items ++ filter passes (drop l.item-index l.items) ≡ filter passes l.items
