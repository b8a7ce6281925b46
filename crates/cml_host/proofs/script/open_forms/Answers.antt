use Rattle.std.proofs.Common.{rules, ◌≡◌, Err, List, ℕ, inl, inr, subst}
use Rattle.cml_text.specs.Texts.{Spells}
use Rattle.cml_host.specs.Refused.{IsUnread, RefusesAs}
use Rattle.cml_host.specs.Scripts.{HasNoForms, IsFaulty}
use Rattle.cml_host.proofs.RefusedLemmas.{wrong_on}
use Rattle.cml_host.proofs.TextLemmas.{faulty_there, spelled_there}
use Rattle.cml_host.proofs.script.open_forms.Goals as goal

pub returns-in_err-text-clause-err : goal.returns-in_err-text-clause-err
returns-in_err-text-clause-err g c =
    let content = g.S.Store.holds c.args.store.now c.args.name.now in
    let why = c.in_err-text.field-0.0 in
    let is : c.from_residual.result ≡ Err why = search rules in
    wrong_on (IsUnread c.args.explains c.args.name.now content) (HasNoForms c.args.explains c.args.name.now content) (λ told status none. inr none) c.from_residual.result why is
    c.in_err-text.ensures.err

pub returns-in_err-forms-clause-err : goal.returns-in_err-forms-clause-err
returns-in_err-forms-clause-err g c =
    let content = g.S.Store.holds c.args.store.now c.args.name.now in
    let found = c.in_ok-text.text.items in
    let why = c.in_err-forms.field-0.0 in
    let is : c.from_residual-in_err-forms.result ≡ Err why = search rules in
    wrong_on (IsFaulty c.args.explains found) (HasNoForms c.args.explains c.args.name.now content)
    (λ told status none. inl (faulty_there c.args.explains content found told status c.in_ok-text.ensures.ok none)) c.from_residual-in_err-forms.result why is
    (subst (λ (ts : List ℕ). RefusesAs (IsFaulty c.args.explains ts) why) c.as_slice.ensures.value c.in_err-forms.ensures.err)

pub returns-clause-ok : goal.returns-clause-ok
returns-clause-ok g c =
    spelled_there (g.S.Store.holds c.args.store.now c.args.name.now) c.in_ok-text.text.items c.in_ok-forms.forms.items c.in_ok-text.ensures.ok
    (subst (λ (ts : List ℕ). Spells ts c.in_ok-forms.forms.items) c.as_slice.ensures.value c.in_ok-forms.ensures.ok)
