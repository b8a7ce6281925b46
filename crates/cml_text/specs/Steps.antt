-- What one step of reading gives.
use Rattle.std.specs.Prelude.{◌≡◌, ℕ, ◌+◌, ◌-◌, ◌<◌, ◌≤◌, Option, Some, None, Result, Ok, Err, List, [], ◌∷◌, ◌++◌, length, drop}
use Rattle.std.specs.String.{string_bytes}
use Rattle.cml_text.specs.declared.fault.TextFault.{TextFault}
use Rattle.cml_text.specs.declared.fault.TextFault.TheVariants as fault
use Rattle.cml_text.specs.declared.word.Word.{Word}
use Rattle.cml_text.specs.declared.word.Word.TheVariants as word
use Rattle.cml_text.specs.declared.word.Quoted.{Quoted}
use Rattle.cml_text.specs.declared.word.Quoted.TheVariants as quoted
use Rattle.cml_text.specs.Faults.{PlainFault}
use Rattle.cml_text.specs.Forms.{PlainSexpr}
use Rattle.cml_text.specs.Texts.{words}
use Rattle.cml_text.specs.Lexemes.{closed, endless, no_escape, literal, Lexeme, opening, closing, leaf, faulty, lexemes}

-- a lexeme of the code, read at a place
abbrev pub lexeme_of : ℕ → Word → Lexeme
lexeme_of at word.Open = opening at
lexeme_of at word.Close = closing (at + 1)
lexeme_of at (word.Leaf form) = leaf form

abbrev pub lexemes_of : ℕ → Option Word → List Lexeme
lexemes_of at None = []
lexemes_of at (Some w) = lexeme_of at w ∷ []

-- the error is that memory ran out, or this fault
abbrev pub IsFault : TextFault → Option PlainFault → Type 0
IsFault fault.Memory found = Unit {0}
IsFault (fault.At kind at) found = found ≡ Some (record { kind = kind; at = at })

-- what was returned for a lexeme that is a form or a fault, unless memory ran out
abbrev pub IsLexeme : Result PlainSexpr TextFault → Lexeme → Type 0
IsLexeme (Ok form) found = found ≡ leaf form
IsLexeme (Err fault.Memory) found = Unit {0}
IsLexeme (Err (fault.At kind at)) found = found ≡ faulty (record { kind = kind; at = at })

-- the text at this place begins with this lexeme, if any, and goes on with the rest
pub record StepsTo (at : ℕ) (text : List ℕ) (found : List Lexeme) (rest : List ℕ) : Type 0 where
  pub shorter : length rest < length text
  pub spelled : lexemes 0 at text ≡ found ++ lexemes 0 (at + (length text - length rest)) rest

-- the text at this place begins with this fault, unless memory ran out
abbrev pub BeginsWithFault : ℕ → List ℕ → TextFault → Type 0
BeginsWithFault at text fault.Memory = Unit {0}
BeginsWithFault at text (fault.At kind place) = (others : List Lexeme) × (lexemes 0 at text ≡ faulty (record { kind = kind; at = place }) ∷ others)

-- what was found after an opening quote
abbrev pub IsQuoted : List ℕ → Quoted → Type 0
IsQuoted text (quoted.Closed content rest) =
    (literal text ≡ closed (string_bytes content) (length text - length rest.now)) × (rest.now ≡ drop (length text - length rest.now) text) × (length rest.now ≤ length text)
IsQuoted text quoted.Endless = literal text ≡ endless
IsQuoted text (quoted.NoEscape place) = (literal text ≡ no_escape place) × (place ≤ length text)

-- the form is no list: it is spelled by one lexeme
abbrev pub IsLeaf : PlainSexpr → Type 0
IsLeaf form = words form ≡ leaf form ∷ []

abbrev pub IsLeafWord : Option Word → Type 0
IsLeafWord None = Unit {0}
IsLeafWord (Some word.Open) = Unit {0}
IsLeafWord (Some word.Close) = Unit {0}
IsLeafWord (Some (word.Leaf form)) = IsLeaf form
