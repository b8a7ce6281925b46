-- What is said of options that are at odds.
use Rattle.std.proofs.Common.{◌≡◌, ◌∙◌, ◌⊎◌, ◌++◌, ap, codes, inl, inr, rules, subst, sym, ℕ, Bool, true, List, Option, Some, None, MatchOption, IsTrue, Bor}
use Rattle.std.specs.Char.{is_ascii_digit}
use Rattle.std.specs.List.{list_all}
use Rattle.std.proofs.lemmas.List.{append_cancel_left, append_cancel_right}
use Rattle.std.specs.Prelude.{IsSomeAnd}
use Rattle.cml_arguments.specs.Words.{drawn_to, record_of, saved_end, saved_name, KindsOdds, OrElse, OverRecord, ReplacedOdds, SaveOdds, SavesOver, ToldOdds}
use Rattle.cml_arguments.specs.declared.RunOptions.{RunOptions}

-- nothing was said of the first of two ways in which options are at odds
pub told_other : (P Q : List ℕ → Type 0) (told : Option (List ℕ)) → ToldOdds P None → ToldOdds Q told → ToldOdds (OrElse P Q) told
told_other P Q None none other = λ text odds. elim odds [ inl first ↦ none text first | inr second ↦ other text second.1 ]
told_other P Q (Some text) none other = inr (none, other)

-- what is said where the picture would replace the record
pub told_over : (options : RunOptions) (name : List ℕ) (told : Option (List ℕ)) → record_of options ≡ Some name
    → ToldOdds (ReplacedOdds (codes "--draw") (drawn_to options) name) told → ToldOdds (OverRecord options) told
told_over options name told is said =
    subst (λ (o : Option (List ℕ)). ToldOdds (λ text. IsSomeAnd o (λ n. ReplacedOdds (codes "--draw") (drawn_to options) n text)) told) (sym is) said

-- what is said where the file of a class would replace the script
pub told_saved : (save : Option (List ℕ)) (start script : List ℕ) (told : Option (List ℕ)) → save ≡ Some start → ToldOdds (KindsOdds start script) told
    → ToldOdds (SaveOdds save script) told
told_saved save start script told is said = subst (λ (o : Option (List ℕ)). ToldOdds (SaveOdds o script) told) (sym is) said

-- ---- the name of a file that is saved

-- what stands in the name of a file in place of its number is the only thing that does
number_same : (start a b : List ℕ) → saved_name start a ≡ saved_name start b → a ≡ b
number_same start a b same =
    append_cancel_right a b (codes ".schedule") (append_cancel_left (codes "-") _ _ (append_cancel_left start (saved_end a) (saved_end b) same))

pub saves_by : (start name s n digits : List ℕ) (all : Bool) → s ≡ start → n ≡ name → n ≡ saved_name s digits → all ≡ list_all is_ascii_digit digits
    → (IsTrue all → SavesOver start name) × (SavesOver start name → IsTrue all)
saves_by start name s n digits all by_start by_name is test =
    let named : name ≡ saved_name start digits = sym by_name ∙ (is ∙ ap (λ t. saved_name t digits) by_start) in
    let into : all ≡ true → SavesOver start name = λ is_true. (digits, sym test ∙ is_true, named) in
    let back : SavesOver start name → all ≡ true = λ over.
    test ∙ (ap (list_all is_ascii_digit) (number_same start digits over.0 (sym named ∙ over.2)) ∙ over.1) in
    search (rules, into, back)

pub number_after_start : (start name rest : List ℕ) (r : Option (Bor (List ℕ))) → name ≡ start ++ rest
    → MatchOption r ((digits : List ℕ) → rest ≡ saved_end digits → ⊥) (λ digits. rest ≡ saved_end digits.now)
    → MatchOption r ((digits : List ℕ) → name ≡ saved_name start digits → ⊥) (λ digits. name ≡ saved_name start digits.now)
number_after_start start name rest None is none = λ digits e. none digits (append_cancel_left start rest (saved_end digits) (sym is ∙ e))
number_after_start start name rest (Some x) is found = is ∙ ap (λ t. start ++ t) found

pub number_in_rest : (rest number : List ℕ) (r : Option (Bor (List ℕ))) → rest ≡ codes "-" ++ number
    → MatchOption r ((digits : List ℕ) → number ≡ digits ++ codes ".schedule" → ⊥) (λ digits. number ≡ digits.now ++ codes ".schedule")
    → MatchOption r ((digits : List ℕ) → rest ≡ saved_end digits → ⊥) (λ digits. rest ≡ saved_end digits.now)
number_in_rest rest number None is none = λ digits e. none digits (append_cancel_left (codes "-") number (digits ++ codes ".schedule") (sym is ∙ e))
number_in_rest rest number (Some x) is found = is ∙ ap (λ t. codes "-" ++ t) found
