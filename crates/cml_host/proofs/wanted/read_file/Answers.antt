use Rattle.std.proofs.Common.{rules, ◌≡◌, List, ℕ, Ok, Err, Some, inl, inr, subst}
use Rattle.std.proofs.lemmas.Result.{IfOk-weaker}
use Rattle.cml_properties.specs.Reading.{TextSays}
use Rattle.cml_host.specs.Refused.{IsUnread, RefusesAs}
use Rattle.cml_host.specs.Wanted.{FileSaysNone, SaysNone}
use Rattle.cml_host.proofs.RefusedLemmas.{err_as, wrong_on}
use Rattle.cml_host.proofs.WantedLemmas.{none_there, says_there}
use Rattle.cml_host.proofs.wanted.read_file.Goals as goal

pub returns-in_err-text-clause-err : goal.returns-in_err-text-clause-err
returns-in_err-text-clause-err g c =
    let held = g.S.Store.holds c.args.store.now in
    let why = c.in_err-text.field-0.0 in
    let is : c.from_residual.result ≡ Err why = search rules in
    wrong_on (IsUnread c.args.explains c.args.name.now (held c.args.name.now)) (FileSaysNone c.args.explains (Some c.args.name.now) held) (λ told status none. inr none)
    c.from_residual.result why is c.in_err-text.ensures.err

pub returns-clause-ok : goal.returns-clause-ok
returns-clause-ok g c =
    let content = g.S.Store.holds c.args.store.now c.args.name.now in
    IfOk-weaker c.said.result _ _
    (λ more says.
    says_there content c.in_ok-text.text.items (Ok more.items) c.in_ok-text.ensures.ok (subst (λ (ts : List ℕ). TextSays ts (Ok more.items)) c.as_slice.ensures.value says)) c.said.ensures.ok

pub returns-clause-err : goal.returns-clause-err
returns-clause-err g c =
    let held = g.S.Store.holds c.args.store.now in
    err_as (SaysNone c.args.explains c.as_slice.result.now) (FileSaysNone c.args.explains (Some c.args.name.now) held)
    (λ told status none.
    inl (none_there c.args.explains (held c.args.name.now) c.in_ok-text.text.items c.as_slice.result.now told status c.in_ok-text.ensures.ok c.as_slice.ensures.value none))
    c.said.result c.said.ensures.err
