use Rattle.std.proofs.Common.{◌-◌, ap, ◌∙◌, arith}
use Rattle.std.specs.Prelude.{slice_get}
use Rattle.cml_stepper.proofs.PickLemmas.{row_there}
use Rattle.cml_stepper.proofs.pick.row_numbered.Goals as goal

pub returns : goal.returns
returns c =
    let rows = c.in_ok-rows.rows.items in
    let n = c.args.number in
    c.copied.ensures ∙ (c.first.ensures.value ∙ (ap (λ rs. slice_get rs 0) c.deref.ensures.value ∙ row_there c.args.book.now n (n - 1) rows (omega arith) c.in_ok-rows.ensures))
