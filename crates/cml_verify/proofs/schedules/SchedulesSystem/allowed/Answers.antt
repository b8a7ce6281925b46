use Rattle.cml_verify.proofs.Stepping.{allowed_here}
use Rattle.cml_verify.proofs.schedules.SchedulesSystem.allowed.Goals as goal

pub returns : goal.returns
returns c = allowed_here c.args.self.now.program c.args.self.now.with_output c.args.schedule.now c.in_ok-hub.hub c.in_ok-hub.ensures c.in_ok-items.items.items c.in_ok-items.ensures

pub hub_after-requires : goal.hub_after-requires
hub_after-requires c = (c.args.self.now.with_output, c.requires)
