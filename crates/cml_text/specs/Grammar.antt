-- The grammar of texts: which forms a text spells, by cases on the text as a whole. It says nothing of how a text is read, and takes
-- from the reader's definitions neither what separates nor what a number, a name or an escape is.
use Rattle.std.specs.Prelude.{◌≡◌, ◌≢◌, ◌⊎◌, ℕ, ◌+◌, ◌*◌, ◌^◌, ◌<◌, ◌≤◌, ℤ, pos, neg_ℤ, not, ◌==◌, IsTrue, List, [], ◌∷◌, ◌++◌, length}
use Rattle.std.specs.List.{list_all, All}
use Rattle.std.specs.Str.{IsUtf8, chars}
use Rattle.unicode_ident.specs.Ident.{is_xid_start, is_xid_continue}
use Rattle.cml_text.specs.Sizes.{text_limit, nesting_limit, literal_limit}
use Rattle.cml_text.specs.Forms.{PlainSexpr, plain_name, plain_int, plain_text, plain_list, PlainForms, no_forms, forms_and, plain_forms, nesting_of}
use Rattle.cml_text.specs.Lexemes.{span_from}

-- what separates: a space, a tab, a carriage return or a line feed
pub data Separates : ℕ → Type 0 where
  space : Separates 32
  tab : Separates 9
  carriage_return : Separates 13
  line_feed : Separates 10

-- what delimits: what separates, `(`, `)`, `"` or `;`
pub data Delimits : ℕ → Type 0 where
  separating : (b : ℕ) → Separates b → Delimits b
  opening_parenthesis : Delimits 40
  closing_parenthesis : Delimits 41
  quote : Delimits 34
  semicolon : Delimits 59

-- one or more digits, and the number that they are in decimal
pub data AreDigits : List ℕ → ℕ → Type 0 where
  digit : (d : ℕ) → d < 10 → AreDigits ((48 + d) ∷ []) d
  digit_behind : (digits : List ℕ) (n d : ℕ) → AreDigits digits n → d < 10 → AreDigits (digits ++ (48 + d) ∷ []) (10 * n + d)

-- a number as it is spelled: digits, with a `-` before them or none, of an `i64`
pub data IsNumeral : List ℕ → ℤ → Type 0 where
  unsigned : (digits : List ℕ) (n : ℕ) → AreDigits digits n → n < 2 ^ 63 → IsNumeral digits (pos n)
  behind_minus : (digits : List ℕ) (n : ℕ) → AreDigits digits n → n ≤ 2 ^ 63 → IsNumeral (45 ∷ digits) (neg_ℤ (pos n))

-- one of `+`, `-`, `*`, `<` and `=`
pub data IsOperator : ℕ → Type 0 where
  plus : IsOperator 43
  minus : IsOperator 45
  star : IsOperator 42
  less : IsOperator 60
  equals : IsOperator 61

-- the spelling of a name: an operator alone; or, by characters, `_` or one that may start an identifier, and then such as may continue one
pub data SpellsName : List ℕ → Type 0 where
  operator : (b : ℕ) → IsOperator b → SpellsName (b ∷ [])
  word : (bytes : List ℕ) (c : ℕ) (cs : List ℕ) → chars bytes ≡ c ∷ cs → (c ≡ 95) ⊎ IsTrue (is_xid_start c) → All (λ d. IsTrue (is_xid_continue d)) cs
      → SpellsName bytes

-- an escape: the byte after the backslash, and the byte that it stands for
pub data Escapes : ℕ → ℕ → Type 0 where
  to_quote : Escapes 34 34
  to_backslash : Escapes 92 92
  to_line_feed : Escapes 110 10

-- How a text ends: it is the whole text, or it stands inside a list, whose closing parenthesis comes next.
pub data Ending : Type 0 where
  whole_text : Ending
  inside_list : Ending

-- no line feed is among the bytes
abbrev pub HaveNoLineFeed : List ℕ → Type 0
HaveNoLineFeed bytes = IsTrue (list_all (λ b. not (b == 10)) bytes)

-- nothing is left, or what is left begins with a delimiter
abbrev pub EndsOrDelimits : List ℕ → Type 0
EndsOrDelimits [] = Unit {0}
EndsOrDelimits (b ∷ text) = Delimits b

-- a token: no delimiter is in it, and it goes on up to a delimiter or to the end of its text
pub record IsToken (token text : List ℕ) : Type 0 where
  pub undivided : All (λ b. Delimits b → ⊥) token
  pub ends : EndsOrDelimits text

-- What stands between the quotes of a text literal, and the bytes that it stands for. It is nothing; or a byte other than a quote and
-- a backslash, which stands for itself, and more; or a backslash, a byte that makes an escape with it, and more.
pub data StandsFor : List ℕ → List ℕ → Type 0 where
  ended : StandsFor [] []
  itself : (b : ℕ) (spelling content : List ℕ) → b ≢ 34 → b ≢ 92 → StandsFor spelling content → StandsFor (b ∷ spelling) (b ∷ content)
  escape : (b c : ℕ) (spelling content : List ℕ) → Escapes b c → StandsFor spelling content → StandsFor (92 ∷ b ∷ spelling) (c ∷ content)

-- The grammar gives a text, whose first byte stands at this place, these forms. The text is
-- nothing;
-- a separator, and a text;
-- a comment (a `;`, bytes other than a line feed, and a line feed), and a text;
-- a comment that ends with the whole text, which no comment inside a list does: the closing parenthesis would be part of it;
-- a list (a `(`, the text inside it, and a `)`), and a text;
-- a text literal (its spelling between two quotes), and a text;
-- a token that is the spelling of a number, and a text;
-- a token that is the spelling of a name, and a text.
pub data Gives : Ending → ℕ → List ℕ → PlainForms → Type 0 where
  nothing : (ending : Ending) (at : ℕ) → Gives ending at [] no_forms
  separator : (ending : Ending) (at b : ℕ) (text : List ℕ) (forms : PlainForms)
      → Separates b → Gives ending (at + 1) text forms
      → Gives ending at (b ∷ text) forms
  comment : (ending : Ending) (at : ℕ) (bytes text : List ℕ) (forms : PlainForms)
      → HaveNoLineFeed bytes → Gives ending (at + 1 + length bytes + 1) text forms
      → Gives ending at (59 ∷ (bytes ++ 10 ∷ text)) forms
  last_comment : (at : ℕ) (bytes : List ℕ)
      → HaveNoLineFeed bytes
      → Gives whole_text at (59 ∷ bytes) no_forms
  list : (ending : Ending) (at : ℕ) (inside text : List ℕ) (members forms : PlainForms)
      → Gives inside_list (at + 1) inside members → Gives ending (at + 1 + length inside + 1) text forms
      → Gives ending at (40 ∷ (inside ++ 41 ∷ text)) (forms_and (plain_list (span_from at (1 + length inside + 1)) members) forms)
  literal : (ending : Ending) (at : ℕ) (spelling content text : List ℕ) (forms : PlainForms)
      → StandsFor spelling content → length content ≤ literal_limit → Gives ending (at + 1 + length spelling + 1) text forms
      → Gives ending at (34 ∷ (spelling ++ 34 ∷ text)) (forms_and (plain_text (span_from at (1 + length spelling + 1)) content) forms)
  number : (ending : Ending) (at : ℕ) (token text : List ℕ) (value : ℤ) (forms : PlainForms)
      → IsToken token text → IsNumeral token value → Gives ending (at + length token) text forms
      → Gives ending at (token ++ text) (forms_and (plain_int (span_from at (length token)) value) forms)
  name : (ending : Ending) (at : ℕ) (token text : List ℕ) (forms : PlainForms)
      → IsToken token text → SpellsName token → Gives ending (at + length token) text forms
      → Gives ending at (token ++ text) (forms_and (plain_name (span_from at (length token)) token) forms)

-- The grammar gives the text these forms, and the text and its forms are within the limits.
pub record IsGrammatical (text : List ℕ) (forms : List PlainSexpr) : Type 0 where
  pub short : length text ≤ text_limit
  pub utf8 : IsUtf8 text
  pub given : Gives whole_text 0 text (plain_forms forms)
  pub shallow : nesting_of (plain_forms forms) ≤ nesting_limit
