-- What the lexemes of a text are.
--
-- A byte from 128 on is part of a character beyond ASCII. No such character separates or delimits, so the cut into lexemes
-- goes by bytes, and only what is inside a name goes by characters.
use Rattle.std.specs.Prelude.{ℕ, zero, suc, ◌+◌, ◌^◌, ℤ, pos, neg_ℤ, Bool, false, not, ◌&&◌, ◌||◌, ◌==◌, nat_lt, nat_le, if◌then◌else◌, Option, Some, None, List, [], ◌∷◌, ◌++◌, length, take}
use Rattle.std.specs.List.{list_all, prefix_len}
use Rattle.std.specs.Char.{is_ascii_digit}
use Rattle.std.specs.Str.{chars}
use Rattle.std.specs.Str.Parse.{digits_value}
use Rattle.unicode_ident.specs.Ident.{is_xid_start, is_xid_continue}
use Rattle.cml_text.specs.declared.sexpr.Span.{Span}
use Rattle.cml_text.specs.declared.fault.FaultKind.{FaultKind}
use Rattle.cml_text.specs.declared.fault.FaultKind.TheVariants.{Unclosed, Character, Escape, Number, Long}
use Rattle.cml_text.specs.Sizes.{literal_limit}
use Rattle.cml_text.specs.Faults.{PlainFault}
use Rattle.cml_text.specs.Forms.{PlainSexpr, plain_name, plain_int, plain_text}

-- space, tab, carriage return and line feed
abbrev pub is_separator : ℕ → Bool
is_separator b = (b == 32) || (b == 9) || (b == 13) || (b == 10)

-- the separators, `(`, `)`, `"` and `;`
abbrev pub is_delimiter : ℕ → Bool
is_delimiter b = is_separator b || (b == 40) || (b == 41) || (b == 34) || (b == 59)

-- what a token is made of
abbrev pub is_token_byte : ℕ → Bool
is_token_byte b = not (is_delimiter b)

-- what a comment is made of: all up to the end of its line
abbrev pub is_comment_byte : ℕ → Bool
is_comment_byte b = not (b == 10)

-- one or more digits
abbrev pub are_digits : List ℕ → Bool
are_digits bytes = not (length bytes == 0) && list_all is_ascii_digit bytes

-- digits, with a `-` before them or none
abbrev pub is_number : List ℕ → Bool
is_number [] = false
is_number (b ∷ bytes) = if b == 45 then are_digits bytes else are_digits (b ∷ bytes)

-- the value of a number, if it is an `i64`
abbrev pub negative_value : ℕ → Option ℤ
negative_value n = if nat_le n (2 ^ 63) then Some (neg_ℤ (pos n)) else None

abbrev pub positive_value : ℕ → Option ℤ
positive_value n = if nat_lt n (2 ^ 63) then Some (pos n) else None

abbrev pub number_value : List ℕ → Option ℤ
number_value [] = None
number_value (b ∷ bytes) = if b == 45 then negative_value (digits_value 10 bytes) else positive_value (digits_value 10 (b ∷ bytes))

-- one of `+`, `-`, `*`, `<` and `=` alone
abbrev pub is_operator : List ℕ → Bool
is_operator (b ∷ []) = (b == 43) || (b == 45) || (b == 42) || (b == 60) || (b == 61)
is_operator _ = false

-- characters: `_` or one that may start an identifier, and then such as may continue one
abbrev pub is_word : List ℕ → Bool
is_word [] = false
is_word (c ∷ cs) = ((c == 95) || is_xid_start c) && list_all is_xid_continue cs

-- the spelling of a name
unfoldable pub is_name : List ℕ → Bool
is_name bytes = is_operator bytes || is_word (chars bytes)

-- what stands for itself in a text literal
abbrev pub is_plain : ℕ → Bool
is_plain b = not ((b == 34) || (b == 92))

-- What stands after an opening quote: the bytes that the literal stands for, and how many bytes it takes up to and with the closing quote;
-- or no closing quote; or a backslash that makes no escape, and how many bytes stand between the quote and it.
pub data Literal : Type 0 where
  closed : List ℕ → ℕ → Literal
  endless : Literal
  no_escape : ℕ → Literal

-- a literal with more at its front: that content, spelled by that many bytes
abbrev pub with_front : List ℕ → ℕ → Literal → Literal
with_front front n (closed content more) = closed (front ++ content) (n + more)
with_front front n endless = endless
with_front front n (no_escape place) = no_escape (n + place)

-- what a backslash and the byte stand for
abbrev pub unescaped : ℕ → Option ℕ
unescaped b = if b == 34 then Some 34 else if b == 92 then Some 92 else if b == 110 then Some 10 else None

abbrev pub with_escape : Option ℕ → Literal → Literal
with_escape None rest = no_escape 0
with_escape (Some b) rest = with_front (b ∷ []) 2 rest

-- A quote closes. A backslash and the byte after it are an escape, and a backslash that is the last byte leaves the literal open.
-- Every other byte stands for itself.
unfoldable pub literal : List ℕ → Literal
literal [] = endless
literal (b ∷ []) = if b == 34 then closed [] 1 else endless
literal (b ∷ c ∷ bytes) =
    if b == 34 then closed [] 1
    else if b == 92 then with_escape (unescaped c) (literal bytes)
    else with_front (b ∷ []) 1 (literal (c ∷ bytes))

-- A lexeme of a text: a parenthesis that opens a list, and where it stands; one that closes a list, and the place after it;
-- a form that is no list; or a fault.
pub data Lexeme : Type 0 where
  opening : ℕ → Lexeme
  closing : ℕ → Lexeme
  leaf : PlainSexpr → Lexeme
  faulty : PlainFault → Lexeme

abbrev pub span_from : ℕ → ℕ → Span
span_from at count = record { start = at; end = at + count }

abbrev pub fault_at : ℕ → FaultKind → Lexeme
fault_at at kind = faulty (record { kind = kind; at = at })

-- a token: a number if it is spelled as one, else a name if it is spelled as one
abbrev pub number_lexeme : ℕ → List ℕ → Option ℤ → Lexeme
number_lexeme at token None = fault_at at Number
number_lexeme at token (Some value) = leaf (plain_int (span_from at (length token)) value)

unfoldable pub token_lexeme : ℕ → List ℕ → Lexeme
token_lexeme at token =
    if is_number token then number_lexeme at token (number_value token)
    else if is_name token then leaf (plain_name (span_from at (length token)) token)
    else fault_at at Character

-- a text by what stands after its opening quote
abbrev pub literal_lexeme : ℕ → Literal → Lexeme
literal_lexeme at (closed content more) =
    if nat_le (length content) literal_limit then leaf (plain_text (span_from at (1 + more)) content) else fault_at at Long
literal_lexeme at endless = fault_at at Unclosed
literal_lexeme at (no_escape place) = fault_at (at + 1 + place) Escape

-- how many bytes after its opening quote belong to a literal
abbrev pub literal_more : Literal → ℕ
literal_more (closed content more) = more
literal_more _ = 0

-- What a byte at a place begins, with the bytes after it: the lexeme, if it begins one, and how many of the bytes after it belong to
-- what it begins. A token goes on up to the next delimiter, and a comment to the end of its line.
pub record Beginning : Type 0 where
  pub word : List Lexeme
  pub more : ℕ

unfoldable pub beginning : ℕ → ℕ → List ℕ → Beginning
beginning at b bytes =
    if is_separator b then record { word = []; more = 0 }
    else if b == 59 then record { word = []; more = prefix_len is_comment_byte bytes }
    else if b == 40 then record { word = opening at ∷ []; more = 0 }
    else if b == 41 then record { word = closing (at + 1) ∷ []; more = 0 }
    else if b == 34 then record { word = literal_lexeme at (literal bytes) ∷ []; more = literal_more (literal bytes) }
    else let count = prefix_len is_token_byte bytes in
    record { word = token_lexeme at (b ∷ take count bytes) ∷ []; more = count }

-- The lexemes of the bytes from a place on, of which the first ones, that many, belong to what began before them. What follows a fault
-- has no meaning.
unfoldable pub lexemes : ℕ → ℕ → List ℕ → List Lexeme
lexemes before at [] = []
lexemes (suc before) at (b ∷ bytes) = lexemes before (at + 1) bytes
lexemes zero at (b ∷ bytes) = (beginning at b bytes).word ++ lexemes (beginning at b bytes).more (at + 1) bytes
