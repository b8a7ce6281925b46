use Rattle.std.proofs.Common.{◌≡◌, None, ◌∙◌, rules}
use Rattle.cml_step.specs.Calls.{text_of}
use Rattle.cml_hub.specs.Courses.{run_of}
use Rattle.cml_hub.specs.Runs.{stands}
use Rattle.cml_verify.proofs.Stepping.{leads_as, leads_nowhere}
use Rattle.cml_verify.proofs.schedules.hub_after.Goals as goal

pub returns-in-Ok : goal.returns-in-Ok
returns-in-Ok c =
    let r = c.in-Ok.ensures in
    let k = c.in-Ok.hub.course in
    let of = r.program ∙ c.in_ok-again.ensures in
    record {
      program = of;
      items = r.items_are;
      none_out = r.none_out;
      leads = leads_as k.program c.args.program.now k.items c.args.schedule.now (run_of k) of r.items_are c.schedule-items.ensures.leads;
    }

pub unreachable-requires : goal.unreachable-requires
unreachable-requires c =
    let none : stands (text_of c.in_ok-again.again) c.args.schedule.now ≡ None = search rules in
    leads_nowhere c.in_ok-again.again c.args.program.now c.requires.0 c.args.schedule.now c.in_ok-again.ensures none c.requires.1
