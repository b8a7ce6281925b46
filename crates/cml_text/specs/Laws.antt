-- What holds of every text.
use Rattle.std.specs.Prelude.{◌≡◌, ◌≢◌, ◌⊎◌, ℕ, ◌+◌, ◌<◌, ◌≤◌, Some, None, List, [], ◌∷◌, ◌++◌, length}
use Rattle.std.specs.Str.{IsUtf8}
use Rattle.cml_text.specs.declared.fault.FaultKind.TheVariants.{Unclosed}
use Rattle.cml_text.specs.Faults.{PlainFault}
use Rattle.cml_text.specs.FirstFaults.{CanBeClosed, IsFirstFault, StandsBefore}
use Rattle.cml_text.specs.Forms.{PlainSexpr, plain_list, PlainForms, no_forms, forms_and, plain_forms, nesting_of, nowhere, all_without_spans}
use Rattle.cml_text.specs.Grammar.{HaveNoLineFeed, IsGrammatical}
use Rattle.cml_text.specs.Lexemes.{lexemes}
use Rattle.cml_text.specs.Limits.{AreWithinLimits}
use Rattle.cml_text.specs.Lines.{line, lines}
use Rattle.cml_text.specs.Printed.{printed, printed_line}
use Rattle.cml_text.specs.Sizes.{text_limit, nesting_limit}
use Rattle.cml_text.specs.Spans.{AreAtSpans}
use Rattle.cml_text.specs.Texts.{Spells, fault_of}

-- a text spells at most one list of forms, spans included
abbrev pub SpellsOneAtMost : Type 0
SpellsOneAtMost = (text : List ℕ) (forms others : List PlainSexpr) → Spells text forms → Spells text others → forms ≡ others

-- a text that spells forms has no fault
abbrev pub SpelledHasNoFault : Type 0
SpelledHasNoFault = (text : List ℕ) (forms : List PlainSexpr) → Spells text forms → fault_of text ≡ None

-- each form of a text, also inside lists, is spelled by the slice at its span
abbrev pub EachAtItsSpan : Type 0
EachAtItsSpan = (text : List ℕ) (forms : List PlainSexpr) → Spells text forms → AreAtSpans text (plain_forms forms)

-- and a text that has no fault spells forms
abbrev pub SpelledOrFaulty : Type 0
SpelledOrFaulty = (text : List ℕ) → fault_of text ≡ None → (forms : List PlainSexpr) × Spells text forms

-- what is printed of forms within the limits, if it is not too long, spells these forms, spans aside
abbrev pub PrintedIsRead : Type 0
PrintedIsRead = (forms : List PlainSexpr) → AreWithinLimits forms → length (printed forms) ≤ text_limit →
    (found : List PlainSexpr) × Spells (printed forms) found × (all_without_spans (plain_forms found) ≡ all_without_spans (plain_forms forms))

-- a text spells forms exactly where the grammar gives it these forms, within the limits
abbrev pub SpellsByTheGrammar : Type 0
SpellsByTheGrammar = (text : List ℕ) (forms : List PlainSexpr) → (Spells text forms → IsGrammatical text forms) × (IsGrammatical text forms → Spells text forms)

-- what a text spells is within the limits of what is printed and read back
abbrev pub SpelledIsWithinLimits : Type 0
SpelledIsWithinLimits = (text : List ℕ) (forms : List PlainSexpr) → Spells text forms → AreWithinLimits forms

-- What a text spells, printed, is read back, if it is not too long; and printing that gives the same text again.
abbrev pub PrintedAgainIsSame : Type 0
PrintedAgainIsSame = (text : List ℕ) (forms : List PlainSexpr) → Spells text forms → length (printed forms) ≤ text_limit →
    (found : List PlainSexpr) × Spells (printed forms) found × (printed found ≡ printed forms)

-- bytes without a line feed, written as a line in front of a text, are the first line of the whole, and the lines of the text follow
abbrev pub WrittenLineIsFirst : Type 0
WrittenLineIsFirst = (bytes text : List ℕ) → HaveNoLineFeed bytes → lines (line bytes ++ text) ≡ bytes ∷ lines text

-- what is printed on one line, of forms within the limits, spells these forms, spans aside, if it is not too long
abbrev pub PrintedLineIsRead : Type 0
PrintedLineIsRead = (forms : List PlainSexpr) → AreWithinLimits forms → length (printed_line forms) ≤ text_limit →
    (found : List PlainSexpr) × Spells (printed_line forms) found × (all_without_spans (plain_forms found) ≡ all_without_spans (plain_forms forms))

-- and no line feed is in it
abbrev pub PrintedLineIsOneLine : Type 0
PrintedLineIsOneLine = (forms : List PlainSexpr) → AreWithinLimits forms → HaveNoLineFeed (printed_line forms)

-- the text spells these forms, spans aside
abbrev pub SpellsAside : List ℕ → PlainForms → Type 0
SpellsAside text forms = (found : List PlainSexpr) × Spells text found × (all_without_spans (plain_forms found) ≡ forms)

-- The text between parentheses. A line feed stands after it, since a text may end with a comment.
abbrev pub in_parentheses : List ℕ → List ℕ
in_parentheses text = 40 ∷ (line text ++ 41 ∷ [])

-- Where there is room for the parentheses, a text in parentheses spells the list of these forms exactly where the text alone spells
-- them and they nest less deep than the limit, spans aside.
abbrev pub AListIsItsForms : Type 0
AListIsItsForms = (text : List ℕ) (forms : PlainForms) → length text + 3 ≤ text_limit →
    (SpellsAside text forms × (nesting_of forms < nesting_limit) → SpellsAside (in_parentheses text) (forms_and (plain_list nowhere forms) no_forms))
    × (SpellsAside (in_parentheses text) (forms_and (plain_list nowhere forms) no_forms) → SpellsAside text forms × (nesting_of forms < nesting_limit))

-- Of a text that is UTF-8 and not too long, the fault is that of the first lexeme with which, whatever follows, no forms are spelled: the
-- lexemes before it could still become forms. Or the end is at fault, and only closing parentheses are missing.
abbrev pub FaultIsFirst : Type 0
FaultIsFirst = (text : List ℕ) (fault : PlainFault) → length text ≤ text_limit → IsUtf8 text → fault_of text ≡ Some fault →
    IsFirstFault (lexemes 0 0 text) fault ⊎ (CanBeClosed (lexemes 0 0 text) × (fault.kind ≡ Unclosed))

-- What stands before the lexeme at fault could still become forms: closing parentheses make it a text of the grammar. Faults of the kind
-- `Unclosed` are left out.
abbrev pub BeforeFaultIsBegun : Type 0
BeforeFaultIsBegun = (text : List ℕ) (fault : PlainFault) → length text ≤ text_limit → IsUtf8 text → fault_of text ≡ Some fault → fault.kind ≢ Unclosed →
    StandsBefore text fault
