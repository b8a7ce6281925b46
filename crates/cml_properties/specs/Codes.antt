-- A code of a printed line: a tree of numbers from which it can be read back. The toolchain asks for it; no rule uses it.
use Rattle.std.specs.Prelude.{ℕ, List, Option, refl}
use Rattle.std.specs.Coded.{Coded, code_by, coded×, coded_list, coded_option, coded_ℕ}
use Rattle.cml_text.specs.FormCodes.{form_code}
use Rattle.cml_text.specs.Forms.{PlainSexpr}
use Rattle.cml_properties.specs.Lines.{PlainLine}

abbrev pub line_code : Coded PlainLine
line_code =
    code_by (List ℕ × Option PlainSexpr) (coded× (coded_list coded_ℕ) (coded_option form_code))
    (λ line. (line.text, line.value))
    (λ p. record { text = p.0; value = p.1 })
    (λ _. refl)
