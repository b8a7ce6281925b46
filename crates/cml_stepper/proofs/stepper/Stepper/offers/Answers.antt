use Rattle.std.proofs.Common.{take, ap, ◌∙◌}
use Rattle.cml_scan.specs.World.{PlainWorld}
use Rattle.cml_scan.specs.Scan.{scan}
use Rattle.cml_stepper.proofs.stepper.Stepper.offers.Goals as goal

pub offers_by-requires-clause-rows : goal.offers_by-requires-clause-rows
offers_by-requires-clause-rows c = c.as_slice-first.ensures.value ∙ (c.in_ok-rows.ensures ∙ ap (λ (w : PlainWorld). take 21 (scan w)) c.book-book.ensures)
