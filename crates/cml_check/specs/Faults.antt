-- What can be wrong with a script, and how fault lines name it.
use Rattle.std.specs.Prelude.{ℕ, List, ◌++◌, codes}
use Rattle.std.specs.Fmt.{decimal}
use Rattle.cml_check.specs.declared.fault.CheckKind.{CheckKind}
use Rattle.cml_check.specs.declared.fault.CheckKind.TheVariants.{Form, Double, Function, Unbound, Arity, Main, Limit}
use Rattle.cml_check.specs.declared.fault.CheckFault.{CheckFault}
use Rattle.cml_check.specs.declared.fault.CheckFault.TheVariants.{At, Memory}

-- a fault: its kind, and the byte at which it stands
pub record PlainCheckFault : Type 0 where
  pub kind : CheckKind
  pub at : ℕ

abbrev pub check_kind_number : CheckKind → ℕ
check_kind_number Form = 1
check_kind_number Double = 2
check_kind_number Function = 3
check_kind_number Unbound = 4
check_kind_number Arity = 5
check_kind_number Main = 6
check_kind_number Limit = 7

abbrev pub check_kind_name : CheckKind → List ℕ
check_kind_name Form = codes "form"
check_kind_name Double = codes "double"
check_kind_name Function = codes "function"
check_kind_name Unbound = codes "unbound"
check_kind_name Arity = codes "arity"
check_kind_name Main = codes "main"
check_kind_name Limit = codes "limit"

-- The line that reports a fault: its kind's number and name, and its place. Where memory ran out this is the text of the error; the program
-- says `memory`.
abbrev pub check_fault_line : CheckFault → List ℕ
check_fault_line (At kind at) = codes "check " ++ (decimal (check_kind_number kind) ++ (codes " " ++ (check_kind_name kind ++ (codes " at " ++ decimal at))))
check_fault_line Memory = codes "out of memory"
