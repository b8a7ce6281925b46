use Rattle.std.proofs.Common.{rules, ◌≡◌, ℕ, List, subst}
use Rattle.std.proofs.lemmas.Result.{IfOk-weaker}
use Rattle.cml_schedule.specs.declared.item.Item.{Item}
use Rattle.cml_host.specs.Drawn.{AreDrawn, AreUndrawn, IsPlanUndrawn}
use Rattle.cml_host.specs.Plans.{Opens}
use Rattle.cml_host.proofs.ClosedLemmas.{starts_again}
use Rattle.cml_host.proofs.DrawnLemmas.{plan_drawn, plan_undrawn}
use Rattle.cml_host.proofs.RefusedLemmas.{err_as}
use Rattle.cml_host.proofs.draw.draw_plan.Goals as goal

pub draw_items-drawn-requires : goal.draw_items-drawn-requires
draw_items-drawn-requires c = record { start = starts_again c.args.both.program _ c.in_ok-hub.hub c.in_ok-hub.ensures.start }

pub returns-clause-ok : goal.returns-clause-ok
returns-clause-ok c =
    let options = c.args.options.now in
    let plan = c.args.both.plan in
    let all : c.as_slice-2.result.now ≡ plan.items = search rules in
    let same : c.plan.inside.budget ≡ plan.budget = search rules in
    let opens = subst (λ (b : ℕ). Opens c.args.both.program b c.in_ok-hub.hub) same c.in_ok-hub.ensures in
    IfOk-weaker c.draw_items-drawn.result _ _
    (λ picture drawn. plan_drawn options c.args.both.program plan c.in_ok-hub.hub picture.items opens
    (subst (λ (xs : List Item). AreDrawn options c.in_ok-hub.hub.course xs picture.items) all drawn)) c.draw_items-drawn.ensures.ok

pub returns-clause-err : goal.returns-clause-err
returns-clause-err c =
    let options = c.args.options.now in
    let plan = c.args.both.plan in
    let all : c.as_slice-2.result.now ≡ plan.items = search rules in
    let same : c.plan.inside.budget ≡ plan.budget = search rules in
    let opens = subst (λ (b : ℕ). Opens c.args.both.program b c.in_ok-hub.hub) same c.in_ok-hub.ensures in
    err_as (AreUndrawn options c.in_ok-hub.hub.course c.as_slice-2.result.now) (IsPlanUndrawn options c.args.both.program plan)
    (λ told status undrawn. plan_undrawn options c.args.both.program plan c.in_ok-hub.hub told status opens
    (subst (λ (xs : List Item). AreUndrawn options c.in_ok-hub.hub.course xs told status) all undrawn)) c.draw_items-drawn.result c.draw_items-drawn.ensures.err
