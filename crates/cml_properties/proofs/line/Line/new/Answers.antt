use Rattle.std.proofs.Common.{◌∷◌, []}
use Rattle.cml_properties.proofs.LineLemmas.{value_of_forms}
use Rattle.cml_properties.proofs.line.Line.new.Goals as goal

pub returns-in-Ok-clause-value : goal.returns-in-Ok-clause-value
returns-in-Ok-clause-value c = rw c.only.ensures (value_of_forms c.args.text.now c.in-Ok.forms.items c.in-Ok.ensures.found c.in-Ok.ensures.only)

pub returns-in-Err-At-clause-value : goal.returns-in-Err-At-clause-value
returns-in-Err-At-clause-value c = λ form one. rw c.in-Err-At.field-0-is at (c.in-Err-At.ensures.only (form ∷ []) one)
