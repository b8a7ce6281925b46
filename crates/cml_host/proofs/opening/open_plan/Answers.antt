use Rattle.std.proofs.Common.{rules, ◌≡◌, Err, inl}
use Rattle.cml_host.specs.Plans.{IsNoPlan, IsNoPlanFor}
use Rattle.cml_host.proofs.RefusedLemmas.{wrong_on}
use Rattle.cml_host.proofs.opening.open_plan.Goals as goal

pub returns-in_err-text-clause-err : goal.returns-in_err-text-clause-err
returns-in_err-text-clause-err g c =
    let content = g.S.Store.holds c.args.store.now c.args.name.now in
    let why = c.in_err-text.field-0.0 in
    let is : c.from_residual.result ≡ Err why = search rules in
    wrong_on (IsNoPlan c.args.explains c.args.name.now content) (IsNoPlanFor c.args.explains c.args.name.now content c.args.program.now) (λ told status none. inl none)
    c.from_residual.result why is c.in_err-text.ensures.err
