use Rattle.std.proofs.Common.{◌≡◌, map, take}
use Rattle.cml_text.specs.Forms.{span_of}
use Rattle.cml_phrase.proofs.statement.spans.Given as goal

abbrev pub invariant-loop-form : goal.invariant-loop-form
invariant-loop-form l = l.spans.items ≡ map span_of (map (λ s. s.now) (take l.form-index l.forms))
