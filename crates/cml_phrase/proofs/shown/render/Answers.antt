use Rattle.std.proofs.Common.{◌∙◌}
use Rattle.cml_phrase.specs.Diagnoses.{plain_diagnosis}
use Rattle.cml_phrase.proofs.AppendLemmas.{shown_by_parts}
use Rattle.cml_phrase.proofs.shown.render.Goals as goal

pub returns : goal.returns
returns c =
    shown_by_parts c.args.name.now c.args.text.now (plain_diagnosis c.args.diagnosis.now) _ _ _ _ _
    (c.as_bytes-digits.ensures.value ∙ c.in_ok-number.ensures) c.new-out.ensures.items c.in_ok-push_head.ensures
    c.in_ok-push_marked.ensures (rw c.as_slice.ensures.value at c.in_ok-push_notes.ensures)
