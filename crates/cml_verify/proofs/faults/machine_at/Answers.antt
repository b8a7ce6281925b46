use Rattle.std.proofs.Common.{◌≡◌, Some, length, slice_get, refl, ap, sym, ◌∙◌}
use Rattle.std.specs.Prelude.{option_and_then}
use Rattle.std.proofs.lemmas.Option.{slice_get_read}
use Rattle.cml_verify.specs.Kept.{PlainKept}
use Rattle.cml_verify.proofs.faults.machine_at.Goals as goal

pub returns : goal.returns
returns c =
    let kept = c.args.kept.now in
    let place = c.args.place in
    let a = c.index-kept-place.result in
    let at : slice_get kept place ≡ Some a = slice_get_read kept (length kept) place a refl c.requires c.index-kept-place.is in
    c.machine_of.ensures
    ∙ (ap (λ l. slice_get l c.args.thread.0) c.machines.ensures ∙ sym (ap (option_and_then (λ (one : PlainKept). slice_get one.machines c.args.thread.0)) at))
