-- Every text of properties says one thing.
use Rattle.std.proofs.Common.{◌≡◌, ℕ, ◌+◌, ◌-◌, min, Bool, true, false, List, [], ◌∷◌, length, ltb, Option, Some, None, Result, Ok, Err, refl, ap, sym, ◌∙◌, inl, inr}
use Rattle.std.specs.Prelude.{MatchBool}
use Rattle.cml_text.specs.Faults.{PlainFault}
use Rattle.cml_text.specs.Laws.{SpelledOrFaulty, SpelledHasNoFault, SpellsOneAtMost}
use Rattle.cml_text.specs.Lines.{lines}
use Rattle.cml_text.specs.Sizes.{text_limit}
use Rattle.cml_text.specs.Texts.{fault_of}
use Rattle.cml_text.specs.declared.fault.FaultKind.TheVariants.{Long}
use Rattle.cml_properties.specs.declared.kind.PropertyKind.{PropertyKind}
use Rattle.cml_properties.specs.declared.property.Property.{Property}
use Rattle.cml_properties.specs.declared.fault.PropertyFault.{PropertyFault}
use Rattle.cml_properties.specs.declared.fault.PropertyFault.TheVariants.{At}
use Rattle.cml_properties.specs.declared.fault.PropertyFaultKind.TheVariants.{Text, Word}
use Rattle.cml_properties.specs.Kinds.{kind_of}
use Rattle.cml_properties.specs.Laws.{SaysOneThing}
use Rattle.cml_properties.specs.Reading.{made, or_count, PatternsGive, WordGives, LineGives, line_begun, word, word_len, behind_word, is_blank_line, said, LineSays, before_others}
use Rattle.cml_properties.specs.Reading.{LinesSay}

abbrev Read : Type 0
Read = Result Property PropertyFault

abbrev AllRead : Type 0
AllRead = Result (List Property) PropertyFault

record Laws : Type 0 where
  some : SpelledOrFaulty
  once : SpellsOneAtMost
  faultless : SpelledHasNoFault

-- patterns

give_by : SpelledOrFaulty → (kind : PropertyKind) (start at : ℕ) (text : List ℕ) (fault : Option PlainFault) → fault_of text ≡ fault → (found : Read) × PatternsGive kind start at text found
give_by some kind start at text None e = let read = some text e in (or_count start (made kind read.0), inl (read.0, read.1, refl))
give_by some kind start at text (Some fault) e = (Err (At (Text fault.kind) (at + min fault.at (length text))), inr (fault, e, refl))

give_once : Laws → (kind : PropertyKind) (start at : ℕ) (text : List ℕ) (a b : Read) → PatternsGive kind start at text a → PatternsGive kind start at text b → a ≡ b
give_once laws kind start at text a b (inl x) (inl y) = x.2 ∙ ap (λ forms. or_count start (made kind forms)) (laws.once text x.0 y.0 x.1 y.1) ∙ sym y.2
give_once laws kind start at text a b (inl x) (inr y) = let clash : None ≡ Some y.0 = sym (laws.faultless text x.0 x.1) ∙ y.1 in cc
give_once laws kind start at text a b (inr x) (inl y) = let clash : None ≡ Some x.0 = sym (laws.faultless text y.0 y.1) ∙ x.1 in cc
give_once laws kind start at text a b (inr x) (inr y) =
    let both : Some x.0 ≡ Some y.0 = sym x.1 ∙ y.1 in
    let same : x.0 ≡ y.0 = cc in
    x.2 ∙ ap (λ (f : PlainFault). Err (At (Text f.kind) (at + min f.at (length text)))) same ∙ sym y.2

-- a word and its patterns

word_gives : Laws → (kind : Option PropertyKind) (start at : ℕ) (text : List ℕ) → (found : Read) × WordGives kind start at text found
word_gives laws None start at text = (Err (At Word start), refl)
word_gives laws (Some kind) start at text = give_by laws.some kind start at text (fault_of text) refl

word_once : Laws → (kind : Option PropertyKind) (start at : ℕ) (text : List ℕ) (a b : Read) → WordGives kind start at text a → WordGives kind start at text b → a ≡ b
word_once laws None start at text a b x y = x ∙ sym y
word_once laws (Some kind) start at text a b x y = give_once laws kind start at text a b x y

-- a line

abbrev line_start : ℕ → List ℕ → ℕ
line_start at line = at + (length line - length (line_begun line))

line_gives : Laws → (at : ℕ) (line : List ℕ) → (found : Read) × LineGives at line found
line_gives laws at line = word_gives laws (kind_of (word line)) (line_start at line) (line_start at line + word_len line) (behind_word line)

line_once : Laws → (at : ℕ) (line : List ℕ) (a b : Read) → LineGives at line a → LineGives at line b → a ≡ b
line_once laws at line = word_once laws (kind_of (word line)) (line_start at line) (line_start at line + word_len line) (behind_word line)

abbrev SaysBy : Bool → (Read → Type 0) → Result (Option Property) PropertyFault → Type 0
SaysBy blank Gives found = MatchBool blank (found ≡ Ok None) ((given : Read) × Gives given × (found ≡ said given))

says_by : (blank : Bool) (Gives : Read → Type 0) → (given : Read) × Gives given → (found : Result (Option Property) PropertyFault) × SaysBy blank Gives found
says_by true Gives given = (Ok None, refl)
says_by false Gives given = (said given.0, (given.0, given.1, refl))

says_once : (blank : Bool) (Gives : Read → Type 0) → ((a b : Read) → Gives a → Gives b → a ≡ b) → (a b : Result (Option Property) PropertyFault) →
    SaysBy blank Gives a → SaysBy blank Gives b → a ≡ b
says_once true Gives once a b x y = x ∙ sym y
says_once false Gives once a b x y = x.2 ∙ ap said (once x.0 y.0 x.1 y.1) ∙ sym y.2

line_says_once : Laws → (at : ℕ) (line : List ℕ) (a b : Result (Option Property) PropertyFault) → LineSays at line a → LineSays at line b → a ≡ b
line_says_once laws at line a b x y = says_once (is_blank_line line) (LineGives at line) (line_once laws at line) a b x y

-- all lines

lines_by : (at : ℕ) (line : List ℕ) (behind : List (List ℕ)) (first : Result (Option Property) PropertyFault) → LineSays at line first →
    ((found : AllRead) × LinesSay (at + (length line + 1)) behind found) → (found : AllRead) × LinesSay at (line ∷ behind) found
lines_by at line behind (Err fault) says others = (Err fault, inl (fault, says, refl))
lines_by at line behind (Ok first) says others = (before_others first others.0, inr (first, others.0, says, others.1, refl))

lines_say : Laws → (at : ℕ) (all : List (List ℕ)) → (found : AllRead) × LinesSay at all found
lines_say laws at [] = (Ok [], refl)
lines_say laws at (line ∷ behind) =
    let first = says_by (is_blank_line line) (LineGives at line) (line_gives laws at line) in
    lines_by at line behind first.0 first.1 (lines_say laws (at + (length line + 1)) behind)

lines_once : Laws → (at : ℕ) (all : List (List ℕ)) (a b : AllRead) → LinesSay at all a → LinesSay at all b → a ≡ b
lines_once laws at [] a b x y = x ∙ sym y
lines_once laws at (line ∷ behind) a b (inl x) (inl y) =
    let both : Err x.0 ≡ Err y.0 = line_says_once laws at line (Err x.0) (Err y.0) x.1 y.1 in
    let same : x.0 ≡ y.0 = cc in
    x.2 ∙ ap Err same ∙ sym y.2
lines_once laws at (line ∷ behind) a b (inl x) (inr y) = let clash : Err x.0 ≡ Ok y.0 = line_says_once laws at line (Err x.0) (Ok y.0) x.1 y.2 in cc
lines_once laws at (line ∷ behind) a b (inr x) (inl y) = let clash : Ok x.0 ≡ Err y.0 = line_says_once laws at line (Ok x.0) (Err y.0) x.2 y.1 in cc
lines_once laws at (line ∷ behind) a b (inr x) (inr y) =
    let both : Ok x.0 ≡ Ok y.0 = line_says_once laws at line (Ok x.0) (Ok y.0) x.2 y.2 in
    let first : x.0 ≡ y.0 = cc in
    let others : x.1 ≡ y.1 = lines_once laws (at + (length line + 1)) behind x.1 y.1 x.3 y.3 in
    x.4 ∙ ap (λ f. before_others f x.1) first ∙ ap (before_others y.0) others ∙ sym y.4

-- the text

abbrev SaysWhole : Bool → List ℕ → AllRead → Type 0
SaysWhole long text found = MatchBool long (found ≡ Err (At (Text Long) text_limit)) (LinesSay 0 (lines text) found)

whole_says : Laws → (long : Bool) (text : List ℕ) → (found : AllRead) × SaysWhole long text found
whole_says laws true text = (Err (At (Text Long) text_limit), refl)
whole_says laws false text = lines_say laws 0 (lines text)

whole_once : Laws → (long : Bool) (text : List ℕ) (a b : AllRead) → SaysWhole long text a → SaysWhole long text b → a ≡ b
whole_once laws true text a b x y = x ∙ sym y
whole_once laws false text a b x y = lines_once laws 0 (lines text) a b x y

pub says_one_thing : SpelledOrFaulty → SpellsOneAtMost → SpelledHasNoFault → SaysOneThing
says_one_thing some once faultless text =
    let laws : Laws = record { some = some; once = once; faultless = faultless } in
    let found = whole_says laws (ltb text_limit (length text)) text in
    (found.0, found.1, λ other says. whole_once laws (ltb text_limit (length text)) text other found.0 says found.1)
