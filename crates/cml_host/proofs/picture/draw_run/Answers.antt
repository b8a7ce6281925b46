use Rattle.std.proofs.Common.{◌≡◌, List, Some, option_map, subst, sym}
use Rattle.std.proofs.lemmas.Result.{IfOk-weaker}
use Rattle.cml_hub.specs.Courses.{run_of}
use Rattle.cml_hub.specs.Runs.{stands}
use Rattle.cml_schedule.specs.declared.item.Item.{Item}
use Rattle.cml_step.specs.Calls.{text_of}
use Rattle.cml_host.proofs.PictureLemmas.{leads_again, opens_itself, run_drawn}
use Rattle.cml_host.proofs.picture.draw_run.Goals as goal

pub draw_all-drawn-requires-clause-opens : goal.draw_all-drawn-requires-clause-opens
draw_all-drawn-requires-clause-opens c = opens_itself c.args.hub.now.course.program c.args.hub.now.budget c.in_ok-again.again c.in_ok-again.ensures

pub draw_all-drawn-requires-clause-leads : goal.draw_all-drawn-requires-clause-leads
draw_all-drawn-requires-clause-leads c =
    leads_again c.args.hub.now.course.program c.args.hub.now.budget c.in_ok-again.again c.schedule.result.now _ c.in_ok-again.ensures
    (subst (λ (items : List Item). stands (text_of c.args.hub.now.course.program) items ≡ Some (run_of c.args.hub.now.course)) (sym c.schedule.ensures.items) c.schedule.ensures.leads)

pub returns : goal.returns
returns c =
    IfOk-weaker c.draw_all-drawn.result _ _
    (λ drawn all. run_drawn c.args.hub.now c.in_ok-again.again c.schedule.result.now
    (option_map (λ bytes. bytes.items) drawn) c.schedule.ensures.items c.in_ok-again.ensures all) c.draw_all-drawn.ensures
