use Rattle.std.proofs.Common.{◌∙◌, sym}
use Rattle.cml_scan.specs.World.{running}
use Rattle.cml_hub.proofs.Ours.{running_is}
use Rattle.cml_facts.proofs.narrative.plan.next_plan.Goals as goal

pub plan_of-requires-clause-fits : goal.plan_of-requires-clause-fits
plan_of-requires-clause-fits c =
    let runs = rw c.book.ensures at (sym c.is_running.ensures ∙ c.if-not-is_running.false) in
    (c.in-Some.ensures.stands running (running_is c.args.hub.now.course.world c.args.thread.0 runs)).0

pub plan_of-requires-clause-awaits : goal.plan_of-requires-clause-awaits
plan_of-requires-clause-awaits c =
    let runs = rw c.book.ensures at (sym c.is_running.ensures ∙ c.if-not-is_running.false) in
    (c.in-Some.ensures.stands running (running_is c.args.hub.now.course.world c.args.thread.0 runs)).1
