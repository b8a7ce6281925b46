use Rattle.std.proofs.Common.{rules, ◌≡◌, Err, List, ℕ, true, inl, inr, subst}
use Rattle.cml_check.specs.Syntax.{PlainItem}
use Rattle.cml_host.specs.Plans.{AreNotBoth, IsNoPlanFor, IsPlanFor}
use Rattle.cml_host.specs.Refused.{RefusesAs}
use Rattle.cml_host.specs.Scripts.{IsNoScript, plain_script}
use Rattle.cml_host.specs.Stores.{Content}
use Rattle.cml_host.proofs.RefusedLemmas.{refuses_as, wrong_on}
use Rattle.cml_host.proofs.opening.open_both.Goals as goal

pub returns-in_err-script-clause-err : goal.returns-in_err-script-clause-err
returns-in_err-script-clause-err g c =
    let held = g.S.Store.holds c.args.store.now in
    let why = c.in_err-script.field-0.0 in
    let is : c.from_residual.result ≡ Err why = search rules in
    wrong_on (IsNoScript true c.args.script_name.now (held c.args.script_name.now)) (AreNotBoth c.args.script_name.now c.args.schedule_name.now held) (λ told status none. inl none)
    c.from_residual.result why is c.in_err-script.ensures.err

pub returns-in-Ok-clause-ok : goal.returns-in-Ok-clause-ok
returns-in-Ok-clause-ok g c =
    let s = plain_script c.in_ok-script.script in
    let lies = subst (λ (content : Content). IsPlanFor content c.subject_of-program.result.0 c.in-Ok.plan) (c.in_ok-script.ensures.same c.args.schedule_name.now) c.in-Ok.ensures.ok in (
      s,
      c.subject_of-program.ensures.program,
      (
        c.in_ok-script.ensures.ok,
        subst (λ (p : List (PlainItem ℕ)). IsPlanFor (g.S.Store.holds c.args.store.now c.args.schedule_name.now) p c.in-Ok.plan) c.subject_of-program.ensures.program lies,
      ),
    )

pub returns-clause-err : goal.returns-clause-err
returns-clause-err g c =
    let held = g.S.Store.holds c.args.store.now in
    let name = c.args.schedule_name.now in
    let s = plain_script c.in_ok-script.script in
    let here = subst (λ (content : Content). RefusesAs (IsNoPlanFor true name content c.subject_of-program.result.0) c.in-Err.why) (c.in_ok-script.ensures.same name) c.in-Err.ensures.err in
    refuses_as (IsNoPlanFor true name (held name) s.program) (AreNotBoth c.args.script_name.now name held) (λ told status none. inr (s, c.in_ok-script.ensures.ok, none)) c.in-Err.why
    (subst (λ (p : List (PlainItem ℕ)). RefusesAs (IsNoPlanFor true name (held name) p) c.in-Err.why) c.subject_of-program.ensures.program here)
