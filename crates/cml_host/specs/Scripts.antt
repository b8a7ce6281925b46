-- Scripts, as the commands read them: the forms and the program that a text is, or why it is none.
use Rattle.std.specs.Prelude.{◌≡◌, ◌⊎◌, ℕ, ◌++◌, Bool, List, Some, Ok, Err, codes, length}
use Rattle.std.specs.Fmt.{decimal}
use Rattle.cml_text.specs.Faults as text
use Rattle.cml_text.specs.Forms.{PlainSexpr}
use Rattle.cml_text.specs.Lines.{line}
use Rattle.cml_text.specs.Printed.{printed}
use Rattle.cml_text.specs.Texts.{Spells, fault_of}
use Rattle.cml_text.specs.declared.fault.TextFault.TheVariants as text_fault
use Rattle.cml_check.specs.Faults as script
use Rattle.cml_check.specs.Shape.{shape}
use Rattle.cml_check.specs.Syntax.{PlainItem}
use Rattle.cml_check.specs.declared.fault.CheckFault.TheVariants as check_fault
use Rattle.cml_step.specs.Calls.{text_of}
use Rattle.cml_host.specs.Stores.{Content, unknown, nothing, bytes}
use Rattle.cml_host.specs.Refused.{Fault, IsExplained, IsUnread}
use Rattle.cml_host.specs.Replies.{PlainReply, TextOr}
use Rattle.cml_host.specs.declared.script.Script.{Script}

-- This is the whole text that lies there: any text, where it is not known; and none, where nothing lies there.
abbrev pub IsWholeText : Content → List ℕ → Type 0
IsWholeText unknown all = Unit {0}
IsWholeText nothing all = ⊥
IsWholeText (bytes known) all = all ≡ known

-- what lies there is a text that spells these forms
abbrev pub AreForms : Content → List PlainSexpr → Type 0
AreForms content forms = (given : List ℕ) × IsWholeText content given × Spells given forms

-- the line that tells of a fault of a text
abbrev pub text_line : text.PlainFault → List ℕ
text_line fault = line (text.fault_line (text_fault.At fault.kind fault.at))

-- the line that tells of a fault of a script
abbrev pub script_line : script.PlainCheckFault → List ℕ
script_line fault = line (script.check_fault_line (check_fault.At fault.kind fault.at))

-- the text spells no forms, for the fault that it has, which is told
abbrev pub IsFaulty : Bool → List ℕ → Fault
IsFaulty explains given told status =
    (fault : text.PlainFault) × (fault_of given ≡ Some fault) × IsExplained explains (text_line fault) told × (status ≡ 2)

-- the forms are no program, for the fault that they have, which is told
abbrev pub IsUnshaped : Bool → List PlainSexpr → Fault
IsUnshaped explains forms told status =
    (fault : script.PlainCheckFault) × (shape forms ≡ Err fault) × IsExplained explains (script_line fault) told × (status ≡ 2)

-- why what lies under this name spells no forms
abbrev pub HasNoForms : Bool → List ℕ → Content → Fault
HasNoForms explains name content told status =
    ((given : List ℕ) × IsWholeText content given × IsFaulty explains given told status) ⊎ IsUnread explains name content told status

-- or why it is no script
abbrev pub IsNoScript : Bool → List ℕ → Content → Fault
IsNoScript explains name content told status =
    HasNoForms explains name content told status
    ⊎ ((forms : List PlainSexpr) × AreForms content forms × IsUnshaped explains forms told status)

-- a script: its text, its forms, and its program
pub record PlainScript : Type 0 where
  pub text : List ℕ
  pub forms : List PlainSexpr
  pub program : List (PlainItem ℕ)

-- what lies there is this script: its text spells its forms, and these are those of its program
pub record IsOpened (content : Content) (s : PlainScript) : Type 0 where
  pub lies : IsWholeText content s.text
  pub spelled : Spells s.text s.forms
  pub shaped : shape s.forms ≡ Ok (text_of s.program)

-- ---- `check` and `fmt`

-- how many functions the script has that lies there
abbrev pub IsCounted : Content → List ℕ → Type 0
IsCounted content told = (s : PlainScript) × IsOpened content s × (told ≡ line (codes "ok functions " ++ decimal (length s.program)))

-- `check`: how many functions the script has; or why there is none
abbrev pub CheckOutcome : Bool → List ℕ → Content → PlainReply → Type 0
CheckOutcome explains name content = TextOr (IsCounted content) (IsNoScript explains name content)

-- the forms that the text spells that lies there, each on a line
abbrev pub ArePrinted : Content → List ℕ → Type 0
ArePrinted content told = (forms : List PlainSexpr) × AreForms content forms × (told ≡ printed forms)

-- `fmt`: these forms; or why there are none
abbrev pub FmtOutcome : Bool → List ℕ → Content → PlainReply → Type 0
FmtOutcome explains name content = TextOr (ArePrinted content) (HasNoForms explains name content)

-- ---- what private functions say

-- what lies there is this text, which spells these forms
abbrev pub HasForms : Content → List ℕ → List PlainSexpr → Type 0
HasForms content given forms = IsWholeText content given × Spells given forms

-- the forms are those of this program
abbrev pub IsProgramOf : List PlainSexpr → List (PlainItem ℕ) → Type 0
IsProgramOf forms p = shape forms ≡ Ok (text_of p)

-- a script in memory
abbrev pub plain_script : Script → PlainScript
plain_script s = record { text = s.text.items; forms = s.forms.items; program = s.program }
