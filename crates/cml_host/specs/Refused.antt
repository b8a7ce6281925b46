-- What is told of what is wrong, and with which status a command ends then.
use Rattle.std.specs.Prelude.{◌≡◌, ℕ, Bool, true, false, List, ◌++◌, codes}
use Rattle.cml_text.specs.Lines.{line}
use Rattle.cml_host.specs.Stores.{Content, MayBeRefused}
use Rattle.cml_host.specs.declared.refusal.Refusal.{Refusal}
use Rattle.cml_host.specs.declared.refusal.Refusal.TheVariants.{Told, Line, Memory}

-- this line is told, and where it is explained some words behind it
abbrev pub IsExplained : Bool → List ℕ → List ℕ → Type 0
IsExplained false said told = told ≡ said
IsExplained true said told = (words : List ℕ) × (told ≡ said ++ words)

-- What is wrong: that this is told of it, and that this is the status.
abbrev pub Fault : Type 1
Fault = List ℕ → ℕ → Type 0

-- the line that tells that the file of this name can't be read
abbrev pub unread_line : List ℕ → List ℕ
unread_line name = line (codes "cannot read " ++ name)

-- the file of this name, where this lies, was not read
abbrev pub IsUnread : Bool → List ℕ → Content → Fault
IsUnread explains name content told status = MayBeRefused content × IsExplained explains (unread_line name) told × (status ≡ 1)

-- the line that says that nothing can be saved under this name
abbrev pub cannot_save : List ℕ → List ℕ
cannot_save name = line (codes "cannot write " ++ name)

-- ---- what private functions say

-- this is what is wrong, or memory ran out
abbrev pub RefusesAs : Fault → Refusal → Type 0
RefusesAs IsWrong (Told told status) = IsWrong told.items status
RefusesAs IsWrong (Line words status) = IsWrong words.now status
RefusesAs IsWrong Memory = Unit {0}

-- it says that the file of this name can't be read, or that memory ran out
abbrev pub TellsUnread : Bool → List ℕ → Refusal → Type 0
TellsUnread explains name (Told told status) = IsExplained explains (unread_line name) told.items × (status ≡ 1)
TellsUnread explains name (Line words status) = IsExplained explains (unread_line name) words.now × (status ≡ 1)
TellsUnread explains name Memory = Unit {0}
