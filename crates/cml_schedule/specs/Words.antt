-- The keywords with which lines of a schedule begin.
use Rattle.std.specs.Prelude.{List, ℕ, if◌then◌else◌, Option, Some, None, codes}
use Rattle.std.specs.Str.{bytes_eq}
use Rattle.cml_text.specs.Forms.{PlainSexpr, plain_name}
use Rattle.cml_schedule.specs.declared.word.Word.{Word}
use Rattle.cml_schedule.specs.declared.word.Word.TheVariants as word

-- the keyword of this spelling, if there is one
abbrev pub word_named : List ℕ → Option Word
word_named bytes =
    if bytes_eq bytes (codes "schedule") then Some word.Schedule
    else if bytes_eq bytes (codes "turn") then Some word.Turn
    else if bytes_eq bytes (codes "commit") then Some word.Commit
    else if bytes_eq bytes (codes "swap") then Some word.Swap
    else if bytes_eq bytes (codes "clock") then Some word.Clock
    else if bytes_eq bytes (codes "end") then Some word.End
    else None

-- the keyword that the form is, if it is one
abbrev pub line_word : PlainSexpr → Option Word
line_word (plain_name span bytes) = word_named bytes
line_word _ = None
