-- How a diagnosis is shown.
use Rattle.std.specs.Prelude.{ℕ, suc, ◌-◌, Bool, not, ◌&&◌, ◌||◌, ◌==◌, nat_lt, if◌then◌else◌, Option, Some, None, List, [], ◌∷◌, ◌++◌, take, drop, codes}
use Rattle.std.specs.List.{flat_map}
use Rattle.std.specs.Fmt.{decimal}
use Rattle.cml_phrase.specs.Places.{begins_character, characters, line_at, line_before, line_behind, shown_place}
use Rattle.cml_phrase.specs.Diagnoses.{PlainNote, PlainDiagnosis}

-- a control character of one byte: the tab is shown, and none here
abbrev pub is_control : ℕ → Bool
is_control b = (nat_lt b 32 && not (b == 9)) || (b == 127)

-- a control character of two bytes
abbrev pub is_wide_control : ℕ → ℕ → Bool
is_wide_control b c = (b == 194) && nat_lt 127 c && nat_lt c 160

-- bytes of a text as they are shown: a question mark for each control character, and all else as it is
unfoldable pub shown_bytes : List ℕ → List ℕ
shown_bytes [] = []
shown_bytes (b ∷ []) = (if is_control b then 63 else b) ∷ []
shown_bytes (b ∷ c ∷ bytes) = if is_wide_control b c then 63 ∷ shown_bytes bytes else (if is_control b then 63 else b) ∷ shown_bytes (c ∷ bytes)

-- How many bytes the first n characters take: all up to the byte that begins one more.
unfoldable pub bytes_of_first : ℕ → List ℕ → ℕ
bytes_of_first n [] = 0
bytes_of_first n (b ∷ bytes) = if begins_character b then (if n == 0 then 0 else suc (bytes_of_first (n - 1) bytes)) else suc (bytes_of_first n bytes)

abbrev pub first_characters : ℕ → List ℕ → List ℕ
first_characters n bytes = take (bytes_of_first n bytes) bytes

-- the last n characters
abbrev pub last_characters : ℕ → List ℕ → List ℕ
last_characters n bytes = drop (bytes_of_first (characters bytes - n) bytes) bytes

-- what stands for characters that are left out
abbrev pub dots_if : Bool → List ℕ
dots_if are_more = if are_more then codes ".." else []

-- that, where there are more than n
abbrev pub dots_for_more : ℕ → List ℕ → List ℕ
dots_for_more n bytes = dots_if (nat_lt n (characters bytes))

-- the first n characters as they are shown
abbrev pub shown_first : ℕ → List ℕ → List ℕ
shown_first n bytes = shown_bytes (first_characters n bytes) ++ dots_for_more n bytes

-- the last n
abbrev pub shown_last : ℕ → List ℕ → List ℕ
shown_last n bytes = dots_for_more n bytes ++ shown_bytes (last_characters n bytes)

-- how many characters of a line are shown before a place, and from it on
abbrev pub before_limit : ℕ
before_limit = 60

abbrev pub behind_limit : ℕ
behind_limit = 100

-- under a character before the mark: a tab under a tab, else a space
abbrev pub blank_under : ℕ → List ℕ
blank_under b = if b == 9 then 9 ∷ [] else if begins_character b then 32 ∷ [] else []

-- under a character of the mark
abbrev pub caret_under : ℕ → List ℕ
caret_under b = if begins_character b then 94 ∷ [] else []

-- a mark under these bytes: at least one sign
abbrev pub carets_under : List ℕ → List ℕ
carets_under bytes = if characters bytes == 0 then 94 ∷ [] else flat_map caret_under bytes

-- a space under each digit of a number
abbrev pub space_under : ℕ → List ℕ
space_under digit = 32 ∷ []

abbrev pub margin_under : List ℕ → List ℕ
margin_under number = flat_map space_under number

-- the file, the place and what is said
abbrev pub shown_head : List ℕ → List ℕ → PlainDiagnosis → List ℕ
shown_head name text d = name ++ (codes ":" ++ (shown_place text d.at ++ (codes ": " ++ (d.message ++ 10 ∷ []))))

-- A line with its number, given by its parts before a place and from it on: of each at most so many characters.
abbrev pub shown_line : List ℕ → List ℕ → List ℕ → List ℕ
shown_line number before behind = number ++ (codes " | " ++ (shown_last before_limit before ++ (shown_first behind_limit behind ++ 10 ∷ [])))

-- what stands under the part of a line before a place
abbrev pub blanks_before : List ℕ → List ℕ
blanks_before bytes = flat_map blank_under (dots_for_more before_limit bytes ++ last_characters before_limit bytes)

-- The mark under that line: under this many bytes from the place on, as far as they are shown.
abbrev pub shown_mark : List ℕ → List ℕ → List ℕ → ℕ → List ℕ
shown_mark number before behind count =
    margin_under number ++ (codes " | " ++ (blanks_before before ++ (carets_under (take count (first_characters behind_limit behind)) ++ 10 ∷ [])))

-- the line of a place, marked up to a byte; or nothing
abbrev pub shown_marked : List ℕ → List ℕ → ℕ → Option ℕ → List ℕ
shown_marked number text at None = []
shown_marked number text at (Some end) =
    shown_line number (line_before text at) (line_behind text at) ++ shown_mark number (line_before text at) (line_behind text at) (end - at)

-- where that stands of which a note speaks
abbrev pub shown_note_place : List ℕ → Option ℕ → List ℕ
shown_note_place text None = []
shown_note_place text (Some at) = codes " at " ++ shown_place text at

-- a note, behind a margin as wide as the number of the line
abbrev pub shown_note : List ℕ → List ℕ → PlainNote → List ℕ
shown_note number text note = margin_under number ++ (codes " = " ++ (note.words ++ (shown_note_place text note.at ++ 10 ∷ [])))

-- the whole: the first line, the line that is shown with its mark, and the notes
abbrev pub shown_diagnosis : List ℕ → List ℕ → PlainDiagnosis → List ℕ
shown_diagnosis name text d =
    let number = decimal (line_at text d.at) in
    shown_head name text d ++ (shown_marked number text d.at d.marked_to ++ flat_map (shown_note number text) d.notes)
