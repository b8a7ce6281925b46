use Rattle.std.proofs.Common.{◌≡◌, drop, []}
use Rattle.cml_text.specs.Forms.{plain_forms}
use Rattle.cml_check.specs.Heads.{parameters_from}
use Rattle.cml_check.proofs.head.parameters_of.Given as goal

-- what is left, after those found, is what all are
abbrev pub invariant-loop-form : goal.invariant-loop-form
invariant-loop-form l = parameters_from l.names (plain_forms (drop l.form-index l.forms)) ≡ parameters_from [] (plain_forms l.forms)
