use Rattle.cml_text.specs.Forms.{nesting}
use Rattle.cml_properties.proofs.words.+write_form.Given as goal

abbrev pub decreases-write_form : goal.decreases-write_form
decreases-write_form g l = nesting l.form.now
