-- Places in a text, as a person counts them: lines, and characters in a line.
--
-- A place is given by a byte number: it stands before that byte, or after the last one. A number past the end is the place after the
-- last byte.
use Rattle.std.specs.Prelude.{ℕ, ◌+◌, ◌-◌, Bool, not, ◌||◌, ◌==◌, nat_lt, if◌then◌else◌, List, ◌++◌, length, take, drop, slice_index, count_by, codes}
use Rattle.std.specs.List.{prefix_len, suffix_len}
use Rattle.std.specs.Fmt.{decimal}

-- A character of UTF-8 begins with a byte that is not from 128 to 191: those go on with one.
abbrev pub begins_character : ℕ → Bool
begins_character b = nat_lt b 128 || nat_lt 191 b

-- how many characters begin in these bytes
abbrev pub characters : List ℕ → ℕ
characters bytes = count_by begins_character bytes

abbrev pub is_line_feed : ℕ → Bool
is_line_feed b = b == 10

abbrev pub is_inside_line : ℕ → Bool
is_inside_line b = not (b == 10)

-- the line of a place, from 1: one more than the line feeds before it
abbrev pub line_at : List ℕ → ℕ → ℕ
line_at text at = count_by is_line_feed (take at text) + 1

-- the last bytes that have no line feed between them
abbrev pub last_line : List ℕ → List ℕ
last_line bytes = drop (length bytes - suffix_len is_inside_line bytes) bytes

-- the bytes of its line that stand before a place
abbrev pub line_before : List ℕ → ℕ → List ℕ
line_before text at = last_line (take at text)

-- the column of a place, from 1: one more than the characters that begin before it in its line
abbrev pub column_at : List ℕ → ℕ → ℕ
column_at text at = characters (line_before text at) + 1

-- the first bytes that have no line feed between them
abbrev pub first_line : List ℕ → List ℕ
first_line bytes = take (prefix_len is_inside_line bytes) bytes

-- a line without a carriage return at its end
abbrev pub without_return : List ℕ → List ℕ
without_return line = if slice_index line (length line - 1) == 13 then take (length line - 1) line else line

-- the bytes of its line that stand from a place on
abbrev pub line_behind : List ℕ → ℕ → List ℕ
line_behind text at = without_return (first_line (drop at text))

-- how a place is written: line and column
abbrev pub shown_place : List ℕ → ℕ → List ℕ
shown_place text at = decimal (line_at text at) ++ codes ":" ++ decimal (column_at text at)
