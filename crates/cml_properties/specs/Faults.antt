-- The line that reports what is wrong with a text of properties.
use Rattle.std.specs.Prelude.{ℕ, List, ◌++◌, codes}
use Rattle.std.specs.Fmt.{decimal}
use Rattle.cml_text.specs.Faults.{fault_line}
use Rattle.cml_text.specs.declared.fault.TextFault.TheVariants as text_fault
use Rattle.cml_properties.specs.declared.fault.PropertyFault.{PropertyFault}
use Rattle.cml_properties.specs.declared.fault.PropertyFault.TheVariants.{At, Memory}
use Rattle.cml_properties.specs.declared.fault.PropertyFaultKind.TheVariants.{Text, Word, Count}

-- A fault of the patterns as a text is reported as that of any text; the others have a number and a name of their own. Where memory ran out this is
-- the text of the error; the program says `memory`.
abbrev pub property_fault_line : PropertyFault → List ℕ
property_fault_line (At (Text kind) at) = fault_line (text_fault.At kind at)
property_fault_line (At Word at) = codes "property 1 word at " ++ decimal at
property_fault_line (At Count at) = codes "property 2 count at " ++ decimal at
property_fault_line Memory = codes "out of memory"
