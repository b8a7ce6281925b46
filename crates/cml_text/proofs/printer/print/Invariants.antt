use Rattle.std.proofs.Common.{◌≡◌, take}
use Rattle.std.specs.String.{string_bytes}
use Rattle.cml_text.specs.Printed.{printed}
use Rattle.cml_text.proofs.printer.print.Given as goal

abbrev pub invariant-loop-form : goal.invariant-loop-form
invariant-loop-form l = string_bytes l.text ≡ printed (take l.form-index l.forms)
