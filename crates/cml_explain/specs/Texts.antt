-- What is wrong with a text, by the kind of its fault and the byte at which it stands. Of a fault that the text does not have something is said
-- all the same.
use Rattle.std.specs.Prelude.{ℕ, Bool, ◌+◌, ◌&&◌, ◌==◌, nat_eq, nat_lt, if◌then◌else◌, Option, Some, None, List, [], ◌∷◌, length, take, drop, slice_index, codes}
use Rattle.std.specs.List.{prefix_len, starts_with}
use Rattle.cml_text.specs.Sizes.{text_limit}
use Rattle.cml_text.specs.Lexemes.{is_token_byte}
use Rattle.cml_text.specs.Faults.{PlainFault}
use Rattle.cml_text.specs.declared.fault.FaultKind.{FaultKind}
use Rattle.cml_text.specs.declared.fault.FaultKind.TheVariants as kind
use Rattle.cml_phrase.specs.Shown.{first_characters}
use Rattle.cml_explain.specs.declared.text.Found.{Found}
use Rattle.cml_explain.specs.declared.text.Found.TheVariants.{OpenList, OpenLiteral, Stray, Token, Escape, Number, Deep, LongText, LongLiteral, Utf8}

-- What is wrong with a text: what was found; the byte at which it stands, and up to which byte the text is marked from there, where it is shown; the
-- piece that is at fault; where the next function begins; and what of the text is shown.
pub record PlainTextTrouble : Type 0 where
  pub found : Found
  pub at : ℕ
  pub marked_to : Option ℕ
  pub piece : List ℕ
  pub next_function : Option ℕ
  pub shown : List ℕ

-- the token that stands at a place: all up to a separator, a parenthesis, a quote or a `;`
abbrev pub token_at : List ℕ → ℕ → List ℕ
token_at text at = take (prefix_len is_token_byte (drop at text)) (drop at text)

-- the byte is a line feed, and the line behind it begins with `(fn`
abbrev pub is_before_function : ℕ → List ℕ → Bool
is_before_function b behind = (b == 10) && starts_with nat_eq behind (codes "(fn")

-- Of bytes that stand at a place: the place of the first line that begins among them and has `(fn` at its left margin.
unfoldable pub next_function : ℕ → List ℕ → Option ℕ
next_function at [] = None
next_function at (b ∷ bytes) = if is_before_function b bytes then Some (at + 1) else next_function (at + 1) bytes

abbrev pub is_quote_at : List ℕ → ℕ → Bool
is_quote_at text at = slice_index text at == 34

abbrev pub found_by : List ℕ → FaultKind → ℕ → Found
found_by text kind.Unclosed at = if is_quote_at text at then OpenLiteral else OpenList
found_by text kind.Stray at = Stray
found_by text kind.Character at = Token
found_by text kind.Escape at = Escape
found_by text kind.Number at = Number
found_by text kind.Deep at = Deep
found_by text kind.Long at = if nat_lt text_limit (length text) then LongText else LongLiteral
found_by text kind.Utf8 at = Utf8

-- what is at fault: a token, or a backslash and the character behind it
abbrev pub piece_by : Found → List ℕ → ℕ → List ℕ
piece_by Token text at = token_at text at
piece_by Number text at = token_at text at
piece_by Escape text at = first_characters 2 (drop at text)
piece_by found text at = []

-- Of a whole text that is too long no line is shown. A mark that ends where it begins has one sign.
abbrev pub marked_by : Found → ℕ → ℕ → Option ℕ
marked_by LongText at n = None
marked_by found at n = Some (at + n)

-- the end of a list that does not end is most likely missing where the next function begins
abbrev pub function_behind : Found → List ℕ → ℕ → Option ℕ
function_behind OpenList text at = next_function at (drop at text)
function_behind found text at = None

-- of a text that is not UTF-8 nothing is shown from the fault on
abbrev pub shown_by : Found → List ℕ → ℕ → List ℕ
shown_by Utf8 text at = take at text
shown_by found text at = text

abbrev pub trouble_with : Found → List ℕ → ℕ → PlainTextTrouble
trouble_with found text at = record {
  found = found;
  at = at;
  marked_to = marked_by found at (length (piece_by found text at));
  piece = piece_by found text at;
  next_function = function_behind found text at;
  shown = shown_by found text at;
}

abbrev pub text_trouble : List ℕ → PlainFault → PlainTextTrouble
text_trouble text fault = trouble_with (found_by text fault.kind fault.at) text fault.at
