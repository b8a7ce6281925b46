use Rattle.std.proofs.Common.{◌≡◌, Some, sym, ap, subst, ◌∙◌}
use Rattle.std.proofs.lemmas.List.{take_all}
use Rattle.cml_step.specs.Calls.{text_of}
use Rattle.cml_schedule.specs.declared.item.Item.TheVariants.{Turn}
use Rattle.cml_hub.specs.Runs.{stands}
use Rattle.cml_hub.specs.Courses.{PlainCourse, run_of}
use Rattle.cml_hub.specs.Kept.{Kept}
use Rattle.cml_hub.proofs.Replaying.{begun_due, bad_at, one_more}
use Rattle.cml_hub.proofs.hub.Hub.replay.Goals as goal

pub loop-i-init : goal.loop-i-init
loop-i-init c =
    let b = c.in-Ok.ensures.ok in
    record {
      program = b.program;
      budget = b.budget_is;
      watch = b.watch_is;
      items = b.items;
      none_out = b.none_out;
      due = begun_due c.args.program c.args.budget c.args.watch c.in-Ok.hub c.requires.watch b;
    }

pub returns-then-not-is_allowed : goal.returns-then-not-is_allowed
returns-then-not-is_allowed c =
    let e : c.hub.inside.course ≡ c.loop-i.hub.course = ap (λ (x : Kept). x.course) c.hub.view_is in
    let leads = subst (λ (x : PlainCourse). stands (text_of x.program) x.items ≡ Some (run_of x)) e c.into_program.ensures.leads in
    let b = bad_at c.args.program c.args.items.now c.loop-i.i (Turn (record { 0 = 0 })) c.loop-i.hub c.loop-i-test.true
    c.loop-i.invariant.program c.loop-i.invariant.items leads (sym c.if-not-is_allowed.ensures) in
    (c.into_program.ensures.program ∙ (ap (λ (x : PlainCourse). x.program) e ∙ c.loop-i.invariant.program), b.0, b.1)

pub step-requires-clause-due : goal.step-requires-clause-due
step-requires-clause-due c = c.loop-i.invariant.due

pub step-requires-clause-none_out : goal.step-requires-clause-none_out
step-requires-clause-none_out c = c.loop-i.invariant.none_out

pub returns-in-Err-step : goal.returns-in-Err-step
returns-in-Err-step c =
    c.into_program-in-Err-step.ensures.program ∙ (ap (λ (x : Kept). x.course.program) c.hub-in-loop-i.view_is ∙ (c.step.ensures.program ∙ c.loop-i.invariant.program))

pub loop-i-preserved : goal.loop-i-preserved
loop-i-preserved c =
    let e = c.in-Ok-step.ensures.ok in
    let i = c.loop-i.invariant in
    record {
      program = e.adds.program ∙ i.program;
      budget = e.budget ∙ i.budget;
      watch = e.watch ∙ i.watch;
      items = one_more c.args.items.now c.loop-i.i (Turn (record { 0 = 0 })) c.loop-i.hub.course.items c.step.new.self.course.items c.loop-i-test.true i.items e.adds.items;
      none_out = e.none_out;
      due = e.none_due;
    }

pub returns : goal.returns
returns c =
    let i = c.loop-i.invariant in
    record {
      program = i.program;
      budget_is = i.budget;
      watch_is = i.watch;
      items_are = i.items ∙ take_all c.loop-i.i c.args.items.now c.loop-i-test.false;
      none_out = i.none_out;
      none_due = i.due;
    }
