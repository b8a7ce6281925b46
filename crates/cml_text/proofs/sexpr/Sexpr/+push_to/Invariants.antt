use Rattle.std.proofs.Common.{◌≡◌, ◌++◌, take, eqb}
use Rattle.std.specs.String.{string_bytes}
use Rattle.cml_text.specs.Forms.{plain_forms}
use Rattle.cml_text.specs.Printed.{printed_members}
use Rattle.cml_text.proofs.sexpr.Sexpr.+push_to.Given as goal

abbrev pub invariant-loop-form : goal.invariant-loop-form
invariant-loop-form l = (l.is_first ≡ eqb l.form-index 0) × (string_bytes l.text ≡ string_bytes l.initial.text ++ printed_members (plain_forms (take l.form-index l.form-items)))
