use Rattle.std.proofs.Common.{◌≡◌, Some, length, slice_get, refl, ap, sym, ◌∙◌}
use Rattle.std.proofs.lemmas.Option.{slice_get_read, same_Some}
use Rattle.cml_verify.specs.Kept.{PlainKept}
use Rattle.cml_verify.proofs.faults.faults_at.Goals as goal

pub returns : goal.returns
returns c = λ one at.
    let kept = c.args.kept.now in
    let place = c.args.place in
    let a = c.index-kept-place.result in
    let here : slice_get kept place ≡ Some a = slice_get_read kept (length kept) place a refl c.requires c.index-kept-place.is in
    c.faults.ensures ∙ ap (λ (x : PlainKept). x.faults) (same_Some a one (sym here ∙ at))
