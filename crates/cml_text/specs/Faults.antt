-- What can be wrong with a text, and how fault lines name it.
use Rattle.std.specs.Prelude.{ℕ, List, ◌++◌, codes}
use Rattle.std.specs.Fmt.{decimal}
use Rattle.cml_text.specs.declared.fault.FaultKind.{FaultKind}
use Rattle.cml_text.specs.declared.fault.TextFault.{TextFault}
use Rattle.cml_text.specs.declared.fault.TextFault.TheVariants.{At, Memory}
use Rattle.cml_text.specs.declared.fault.FaultKind.TheVariants.{Unclosed, Stray, Character, Escape, Number, Deep, Long, Utf8}

-- a fault: its kind, and the byte at which it stands
pub record PlainFault : Type 0 where
  pub kind : FaultKind
  pub at : ℕ

abbrev pub kind_number : FaultKind → ℕ
kind_number Unclosed = 1
kind_number Stray = 2
kind_number Character = 3
kind_number Escape = 4
kind_number Number = 5
kind_number Deep = 6
kind_number Long = 7
kind_number Utf8 = 8

abbrev pub kind_name : FaultKind → List ℕ
kind_name Unclosed = codes "unclosed"
kind_name Stray = codes "stray"
kind_name Character = codes "character"
kind_name Escape = codes "escape"
kind_name Number = codes "number"
kind_name Deep = codes "deep"
kind_name Long = codes "long"
kind_name Utf8 = codes "utf8"

-- The line that reports a fault: its kind's number and name, and its place. Where memory ran out this is the text of the error; the program
-- says `memory`.
abbrev pub fault_line : TextFault → List ℕ
fault_line (At kind at) = codes "text " ++ (decimal (kind_number kind) ++ (codes " " ++ (kind_name kind ++ (codes " at " ++ decimal at))))
fault_line Memory = codes "out of memory"
