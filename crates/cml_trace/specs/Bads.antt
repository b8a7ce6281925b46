-- Why a line is no command.
use Rattle.std.specs.Prelude.{◌≡◌, ◌⊎◌, ℕ, List, Option, Some, None}
use Rattle.cml_text.specs.Forms.{PlainSexpr}
use Rattle.cml_text.specs.Faults.{PlainFault}
use Rattle.cml_text.specs.Texts.{Spells, fault_of}
use Rattle.cml_trace.specs.declared.keyword.Keyword.{Keyword}
use Rattle.cml_trace.specs.declared.why.Bad.{Bad}
use Rattle.cml_trace.specs.declared.why.Bad.TheVariants as bad
use Rattle.cml_trace.specs.Keywords.{head_of}

-- that of a line whose text has no fault: by the keyword with which it begins, if it begins with one
abbrev pub bad_forms : Option (Keyword × List PlainSexpr) → Bad
bad_forms (Some head) = bad.Begins head.0
bad_forms None = bad.NoKeyword

-- the bad line is one by the fault of its text, or by how its forms begin
abbrev pub IsBadFor : List ℕ → Bad → Type 0
IsBadFor line why =
    ((fault : PlainFault) × (fault_of line ≡ Some fault) × (why ≡ bad.Text fault.kind))
    ⊎ ((forms : List PlainSexpr) × Spells line forms × (why ≡ bad_forms (head_of forms)))
