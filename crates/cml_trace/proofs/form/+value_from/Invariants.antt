use Rattle.cml_text.specs.Forms.{nesting}
use Rattle.cml_trace.proofs.form.+value_from.Given as goal

abbrev pub decreases-value_from : goal.decreases-value_from
decreases-value_from l = nesting l.form.now
