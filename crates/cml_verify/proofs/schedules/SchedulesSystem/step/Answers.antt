use Rattle.cml_verify.proofs.Stepping.{comes_here, steps_here}
use Rattle.cml_verify.proofs.schedules.SchedulesSystem.step.Goals as goal

pub unreachable-requires : goal.unreachable-requires
unreachable-requires c =
    comes_here c.args.self.now.program c.args.self.now.with_output c.args.schedule.now c.in_ok-hub.hub c.in_ok-hub.ensures c.args.item c.requires
    (rw c.if-not-came.true at c.in_ok-came.ensures.ok.course).0

pub returns : goal.returns
returns c =
    steps_here c.args.self.now.program c.args.self.now.with_output c.args.schedule.now c.in_ok-hub.hub c.in_ok-hub.ensures c.args.item c.follow.new.self c.in_ok-kept.kept
    (rw c.if-not-came.false at c.in_ok-came.ensures.ok.course) c.in_ok-kept.ensures

pub hub_after-requires : goal.hub_after-requires
hub_after-requires c = (c.args.self.now.with_output, (c.requires.0, c.requires.1, tt))
