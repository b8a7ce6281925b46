use Rattle.std.proofs.Common.{rules, ◌≡◌, Err, inl, inr}
use Rattle.cml_host.specs.Scripts.{HasNoForms, IsNoScript, IsUnshaped}
use Rattle.cml_host.proofs.RefusedLemmas.{wrong_on}
use Rattle.cml_host.proofs.script.open_script.Goals as goal

pub returns-in_err-text-clause-err : goal.returns-in_err-text-clause-err
returns-in_err-text-clause-err g c =
    let content = g.S.Store.holds c.args.store.now c.args.name.now in
    let why = c.in_err-text.field-0.0 in
    let is : c.from_residual.result ≡ Err why = search rules in
    wrong_on (HasNoForms c.args.explains c.args.name.now content) (IsNoScript c.args.explains c.args.name.now content) (λ told status none. inl none) c.from_residual.result why is
    c.in_err-text.ensures.err

pub returns-in_err-program-clause-err : goal.returns-in_err-program-clause-err
returns-in_err-program-clause-err g c =
    let content = g.S.Store.holds c.args.store.now c.args.name.now in
    let found = c.in_ok-text.ensures.ok in
    let forms = c.in_ok-text.forms.items in
    let why = c.in_err-program.field-0.0 in
    let is : c.from_residual-in_err-program.result ≡ Err why = search rules in
    wrong_on (IsUnshaped c.args.explains forms) (IsNoScript c.args.explains c.args.name.now content)
    (λ told status none. inr (forms, (c.in_ok-text.text.items, found.0, found.1), none)) c.from_residual-in_err-program.result why is (search rules)

pub returns-clause-ok : goal.returns-clause-ok
returns-clause-ok g c =
    let found = c.in_ok-text.ensures.ok in
    record { lies = found.0; spelled = found.1; shaped = search rules }
