use Rattle.std.proofs.Common.{◌∙◌, ap, sym}
use Rattle.cml_properties.specs.Agreements.{texts}
use Rattle.cml_properties.proofs.SortLemmas.{same_sorted}
use Rattle.cml_properties.proofs.agreement.have_same_lines.Goals as goal

pub returns : goal.returns
returns c =
    let same = same_sorted _ _ _ _ c.in_ok-these.ensures.lines c.in_ok-those.ensures.lines c.in_ok-these.ensures.order c.in_ok-those.ensures.order in
    let first = ap texts c.as_slice.ensures.value in
    let second = ap texts c.as_slice-2.ensures.value in
    (λ is. same.0 (sym first ∙ c.are_same.ensures.0 is ∙ second), λ p. c.are_same.ensures.1 (first ∙ same.1 p ∙ sym second))
