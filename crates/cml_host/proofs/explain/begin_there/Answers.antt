use Rattle.std.proofs.Common.{◌≡◌, List, ℕ, ap, subst}
use Rattle.cml_check.specs.Syntax.{PlainItem}
use Rattle.cml_schedule.specs.Plans.{PlainPlan}
use Rattle.cml_host.specs.Plans.{Opens}
use Rattle.cml_host.proofs.explain.begin_there.Goals as goal

pub returns-clause-ok : goal.returns-clause-ok
returns-clause-ok g c =
    let are = c.in_ok-program.ensures.ok in
    let both = c.in_ok-program.field-0 in
    let budget : c.plan.inside.budget ≡ both.plan.budget = ap (λ (plan : PlainPlan). plan.budget) c.plan.view_is in (
      are.0,
      are.2,
      subst (λ (p : List (PlainItem ℕ)). Opens p both.plan.budget c.in_ok-hub.hub) are.1
          (subst (λ (b : ℕ). Opens both.program b c.in_ok-hub.hub) budget c.in_ok-hub.ensures),
    )
