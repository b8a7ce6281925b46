use Rattle.std.proofs.Common.{rules, ◌≡◌, Err, List, ℕ, inl, inr, subst}
use Rattle.cml_host.specs.Plans.{IsNoPlan, IsNoSchedule, IsSchedule}
use Rattle.cml_host.specs.Refused.{IsUnread, RefusesAs}
use Rattle.cml_host.proofs.PlanLemmas.{no_plan_there, plan_there}
use Rattle.cml_host.proofs.RefusedLemmas.{wrong_on}
use Rattle.cml_host.proofs.opening.load_plan.Goals as goal

pub returns-in_err-text-clause-err : goal.returns-in_err-text-clause-err
returns-in_err-text-clause-err g c =
    let content = g.S.Store.holds c.args.store.now c.args.name.now in
    let why = c.in_err-text.field-0.0 in
    let is : c.from_residual.result ≡ Err why = search rules in
    wrong_on (IsUnread c.args.explains c.args.name.now content) (IsNoPlan c.args.explains c.args.name.now content) (λ told status none. inr none) c.from_residual.result why is
    c.in_err-text.ensures.err

pub returns-in_err-plan-clause-err : goal.returns-in_err-plan-clause-err
returns-in_err-plan-clause-err g c =
    let content = g.S.Store.holds c.args.store.now c.args.name.now in
    let found = c.in_ok-text.text.items in
    let why = c.in_err-plan.field-0.0 in
    let is : c.from_residual-in_err-plan.result ≡ Err why = search rules in
    wrong_on (IsNoSchedule c.args.explains found) (IsNoPlan c.args.explains c.args.name.now content)
    (λ told status none. inl (no_plan_there c.args.explains content found told status c.in_ok-text.ensures.ok none)) c.from_residual-in_err-plan.result why is
    (subst (λ (ts : List ℕ). RefusesAs (IsNoSchedule c.args.explains ts) why) c.as_slice.ensures.value c.in_err-plan.ensures.err)

pub returns-clause-ok : goal.returns-clause-ok
returns-clause-ok g c =
    plan_there (g.S.Store.holds c.args.store.now c.args.name.now) c.in_ok-text.text.items c.in_ok-plan.plan c.in_ok-text.ensures.ok
    (subst (λ (ts : List ℕ). IsSchedule ts c.in_ok-plan.plan) c.as_slice.ensures.value c.in_ok-plan.ensures.ok)
