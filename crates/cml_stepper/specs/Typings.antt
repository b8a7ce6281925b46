-- What a line says that is typed.
use Rattle.std.specs.Prelude.{◌≡◌, ◌⊎◌, ℕ, if◌then◌else◌, List, [], ◌∷◌, codes, Option, Some, None}
use Rattle.std.specs.Str.{bytes_eq}
use Rattle.cml_text.specs.Faults.{PlainFault}
use Rattle.cml_text.specs.Forms.{PlainSexpr, plain_name, plain_int, plain_text, plain_list}
use Rattle.cml_text.specs.Numbers.{number_from, tick_by, tick_from}
use Rattle.cml_text.specs.Texts.{Spells, fault_of}
use Rattle.cml_stepper.specs.declared.line.Typed.{Typed}
use Rattle.cml_stepper.specs.declared.line.Typed.TheVariants as typed

-- a word by itself: `w` asks who waits, `u` undoes the last item, `q` ends
abbrev pub word_typed : List ℕ → Typed
word_typed bytes =
    if bytes_eq bytes (codes "w") then typed.Waits
    else if bytes_eq bytes (codes "u") then typed.Undo
    else if bytes_eq bytes (codes "q") then typed.Quit
    else typed.Unknown

-- a number by itself is that of a row
abbrev pub number_typed : Option ℕ → Typed
number_typed (Some n) = typed.Row n
number_typed None = typed.Unknown

abbrev pub alone_typed : PlainSexpr → Typed
alone_typed (plain_name span bytes) = word_typed bytes
alone_typed (plain_int span z) = number_typed (tick_by z)
alone_typed (plain_text span content) = typed.Unknown
alone_typed (plain_list span forms) = typed.Unknown

abbrev pub turn_typed : Option ℕ → Typed
turn_typed (Some n) = typed.Turn (record { 0 = n })
turn_typed None = typed.Unknown

abbrev pub list_typed : Option ℕ → Typed
list_typed (Some n) = typed.List n
list_typed None = typed.Unknown

-- a word with a number: `t 3` is a turn of thread 3, `l 21` lists the rows from that number on
abbrev pub named_typed : List ℕ → PlainSexpr → Typed
named_typed bytes second =
    if bytes_eq bytes (codes "t") then turn_typed (number_from second)
    else if bytes_eq bytes (codes "l") then list_typed (tick_from second)
    else typed.Unknown

abbrev pub both_typed : PlainSexpr → PlainSexpr → Typed
both_typed (plain_name span bytes) second = named_typed bytes second
both_typed (plain_int span z) second = typed.Unknown
both_typed (plain_text span content) second = typed.Unknown
both_typed (plain_list span forms) second = typed.Unknown

-- what these forms say; nothing says that the run goes on
abbrev pub typed_by : List PlainSexpr → Typed
typed_by [] = typed.Next
typed_by (form ∷ []) = alone_typed form
typed_by (form ∷ second ∷ []) = both_typed form second
typed_by (form ∷ second ∷ third ∷ forms) = typed.Unknown

-- A line says what its forms say; one that spells no forms says nothing that is known.
abbrev pub IsTyped : List ℕ → Typed → Type 0
IsTyped line what =
    ((forms : List PlainSexpr) × Spells line forms × (what ≡ typed_by forms)) ⊎ ((found : PlainFault) × (fault_of line ≡ Some found) × (what ≡ typed.Unknown))
