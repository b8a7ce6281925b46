use Rattle.std.proofs.Common.{◌≡◌, ◌∷◌, [], ◌++◌, length}
use denote.Text.{Utf8}
use denote.Shadow.{shadow}
use Rattle.std.specs.Prelude.{flat_map}
use Rattle.std.specs.String.{string_bytes}
use Rattle.cml_text.specs.Printed.{escaped}
use Rattle.cml_text.proofs.printer.push_quoted.Given as goal

abbrev pub invariant-loop-rest : goal.invariant-loop-rest
invariant-loop-rest l = shadow (Utf8 l.rest) × (string_bytes l.text ++ flat_map escaped l.rest ≡ (string_bytes l.fn.text ++ 34 ∷ []) ++ flat_map escaped l.content)

abbrev pub decreases-loop-rest : goal.decreases-loop-rest
decreases-loop-rest l = length l.rest
