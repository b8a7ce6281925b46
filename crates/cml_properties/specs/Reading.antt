-- How a text of properties is read: a property on each line that is not blank, up to the first fault.
use Rattle.std.specs.Prelude.{◌≡◌, ◌⊎◌, ℕ, ◌+◌, ◌-◌, ◌==◌, Bool, true, nat_lt, min, MatchBool, Option, Some, None, option_to_list, Result, Ok, Err, List, [], ◌∷◌, ◌++◌, length, drop, take, Vec}
use Rattle.std.specs.List.{prefix_len}
use Rattle.std.specs.declared.alloc.Global.{Global}
use Rattle.cml_text.specs.declared.fault.FaultKind.TheVariants.{Long}
use Rattle.cml_text.specs.Faults.{PlainFault}
use Rattle.cml_text.specs.Forms.{PlainSexpr}
use Rattle.cml_text.specs.Lexemes.{is_separator, is_token_byte}
use Rattle.cml_text.specs.Lines.{lines}
use Rattle.cml_text.specs.Sizes.{text_limit}
use Rattle.cml_text.specs.Texts.{Spells, fault_of}
use Rattle.cml_properties.specs.declared.kind.PropertyKind.{PropertyKind}
use Rattle.cml_properties.specs.declared.kind.PropertyKind.TheVariants as kind
use Rattle.cml_properties.specs.declared.property.Property.{Property}
use Rattle.cml_properties.specs.declared.property.Property.TheVariants as property
use Rattle.cml_properties.specs.declared.fault.PropertyFaultKind.TheVariants.{Text, Word, Count}
use Rattle.cml_properties.specs.declared.fault.PropertyFault.{PropertyFault}
use Rattle.cml_properties.specs.declared.fault.PropertyFault.TheVariants.{At, Memory}
use Rattle.cml_properties.specs.Kinds.{kind_of}

-- the property of this kind and these patterns, if it takes so many
abbrev pub made : PropertyKind → List PlainSexpr → Option Property
made kind.Never (pattern ∷ []) = Some (property.Never pattern)
made kind.Always (pattern ∷ []) = Some (property.Always pattern)
made kind.Once (pattern ∷ []) = Some (property.Once pattern)
made kind.Before (first ∷ later ∷ []) = Some (property.Before first later)
made kind.SameLines [] = Some property.SameLines
made kind.SameOrder [] = Some property.SameOrder
made kind.Empty [] = Some property.Empty
made _ _ = None

-- a value, if a list has nothing in it
abbrev pub if_none : {A B : Type 0} → List A → B → Option B
if_none [] b = Some b
if_none _ b = None

-- too few patterns or too many are at fault where the property begins
abbrev pub or_count : ℕ → Option Property → Result Property PropertyFault
or_count start (Some property) = Ok property
or_count start None = Err (At Count start)

-- What a property of this kind that begins at one byte is, where its patterns are the text that stands at another: what the text's forms
-- make. A fault of the text is told at its byte, and never behind the end of the text.
abbrev pub PatternsGive : PropertyKind → ℕ → ℕ → List ℕ → Result Property PropertyFault → Type 0
PatternsGive kind start at text found =
    ((forms : List PlainSexpr) × Spells text forms × (found ≡ or_count start (made kind forms)))
    ⊎ ((fault : PlainFault) × (fault_of text ≡ Some fault) × (found ≡ Err (At (Text fault.kind) (at + min fault.at (length text)))))

-- a line without the separators at its front; its first word; and what stands behind that
abbrev pub line_begun : List ℕ → List ℕ
line_begun line = drop (prefix_len is_separator line) line

abbrev pub word_len : List ℕ → ℕ
word_len line = prefix_len is_token_byte (line_begun line)

abbrev pub word : List ℕ → List ℕ
word line = take (word_len line) (line_begun line)

abbrev pub behind_word : List ℕ → List ℕ
behind_word line = drop (word_len line) (line_begun line)

-- whether nothing stands on the line, or a comment alone
abbrev pub is_empty_or_comment : List ℕ → Bool
is_empty_or_comment [] = true
is_empty_or_comment (b ∷ bytes) = b == 59

abbrev pub is_blank_line : List ℕ → Bool
is_blank_line line = is_empty_or_comment (line_begun line)

-- what a property is that begins at one byte with this word, if it is one, and whose patterns are the text at another
abbrev pub WordGives : Option PropertyKind → ℕ → ℕ → List ℕ → Result Property PropertyFault → Type 0
WordGives (Some kind) start at text found = PatternsGive kind start at text found
WordGives None start at text found = found ≡ Err (At Word start)

-- what a line at this byte is that is not blank
abbrev pub LineGives : ℕ → List ℕ → Result Property PropertyFault → Type 0
LineGives at line found =
    let start = at + (length line - length (line_begun line)) in WordGives (kind_of (word line)) start (start + word_len line) (behind_word line) found

-- no property, or one
abbrev pub said : Result Property PropertyFault → Result (Option Property) PropertyFault
said (Ok property) = Ok (Some property)
said (Err fault) = Err fault

abbrev pub LineSays : ℕ → List ℕ → Result (Option Property) PropertyFault → Type 0
LineSays at line found =
    MatchBool (is_blank_line line) (found ≡ Ok None) ((given : Result Property PropertyFault) × LineGives at line given × (found ≡ said given))

-- the property in front of the others, if there is one
abbrev pub before_others : Option Property → Result (List Property) PropertyFault → Result (List Property) PropertyFault
before_others first (Ok others) = Ok (option_to_list first ++ others)
before_others first (Err fault) = Err fault

-- What these lines say, the first of which stands at this byte: the properties in their order; or the first fault.
abbrev pub LinesSay : ℕ → List (List ℕ) → Result (List Property) PropertyFault → Type 0
LinesSay at [] found = found ≡ Ok []
LinesSay at (line ∷ behind) found =
    ((fault : PropertyFault) × LineSays at line (Err fault) × (found ≡ Err fault))
    ⊎ ((first : Option Property) × (others : Result (List Property) PropertyFault) ×
    LineSays at line (Ok first) × LinesSay (at + (length line + 1)) behind others × (found ≡ before_others first others))

-- what a text says; if it is too long, this is its fault
abbrev pub TextSays : List ℕ → Result (List Property) PropertyFault → Type 0
TextSays text found =
    MatchBool (nat_lt text_limit (length text)) (found ≡ Err (At (Text Long) text_limit)) (LinesSay 0 (lines text) found)

-- the properties that were read, as a list
abbrev pub read_properties : Result (Vec Property Global) PropertyFault → Result (List Property) PropertyFault
read_properties (Ok found) = Ok found.items
read_properties (Err fault) = Err fault

-- what is said of a result, unless memory ran out
abbrev pub IfTold : {A : Type 0} → Result A PropertyFault → (Result A PropertyFault → Type 0) → Type 0
IfTold (Ok found) P = P (Ok found)
IfTold (Err (At kind at)) P = P (Err (At kind at))
IfTold (Err Memory) P = Unit {0}
