-- Where the statements of a script stand, as a person counts lines and columns.
use Rattle.std.specs.Prelude.{ℕ, ◌+◌, if◌then◌else◌, List, map, slice_get, Option, option_and_then}
use Rattle.cml_text.specs.Forms.{PlainSexpr, span_of}
use Rattle.cml_phrase.specs.Places.{line_at, column_at, is_line_feed, begins_character}
use Rattle.cml_phrase.specs.declared.place.Place.{Place}
use Rattle.cml_phrase.specs.Statements.{item_statements}

-- the place of a text at a byte
abbrev pub place_at : List ℕ → ℕ → Place
place_at text at = record { line = line_at text at; column = column_at text at }

-- The place behind a byte: a line feed ends the line, and each byte that begins a character is one column.
abbrev pub place_past : Place → ℕ → Place
place_past place byte =
    if is_line_feed byte then record { line = place.line + 1; column = 1 } else if begins_character byte then record { line = place.line; column = place.column + 1 } else place

-- where the statements of an item begin
abbrev pub item_places : List ℕ → PlainSexpr → List Place
item_places text item = map (λ form. place_at text (span_of form).start) (item_statements item)

abbrev pub all_places : List ℕ → List PlainSexpr → List (List Place)
all_places text forms = map (item_places text) forms

-- of these places, that of a statement of a function, by the numbers of both
abbrev pub statement_place : List (List Place) → ℕ → ℕ → Option Place
statement_place places func at = option_and_then (λ own. slice_get own at) (slice_get places func)
