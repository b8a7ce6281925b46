-- What the first fault of a text is, said of its lexemes as a whole.
use Rattle.std.specs.Prelude.{◌≡◌, ◌⊎◌, ℕ, ◌-◌, ◌<◌, ◌≤◌, List, [], ◌∷◌, ◌++◌, length, map}
use Rattle.cml_text.specs.declared.fault.FaultKind.TheVariants.{Stray, Escape, Deep}
use Rattle.cml_text.specs.Sizes.{nesting_limit}
use Rattle.cml_text.specs.Faults.{PlainFault}
use Rattle.cml_text.specs.Forms.{PlainForms, nesting_of}
use Rattle.cml_text.specs.Grammar.{whole_text, Gives}
use Rattle.cml_text.specs.Lexemes.{Lexeme, opening, closing, leaf, faulty}
use Rattle.cml_text.specs.Texts.{words_of}

-- with closing parentheses after them, or as they are, the lexemes spell forms that nest at most `nesting_limit` deep
pub record CanBeClosed (words : List Lexeme) : Type 0 where
  pub ends : List ℕ
  pub forms : PlainForms
  pub spelled : words ++ map closing ends ≡ words_of forms
  pub shallow : nesting_of forms ≤ nesting_limit

-- whatever stands after them, the lexemes spell no forms that nest at most `nesting_limit` deep
abbrev pub CannotGoOn : List Lexeme → Type 0
CannotGoOn words = (rest : List Lexeme) (forms : PlainForms) → nesting_of forms ≤ nesting_limit → words ++ rest ≡ words_of forms → ⊥

-- The fault is this lexeme's: a parenthesis that opens a list too deep, one that closes nothing, or what is no lexeme.
abbrev pub IsAtFault : Lexeme → PlainFault → Type 0
IsAtFault (opening at) fault = fault ≡ record { kind = Deep; at = at }
IsAtFault (closing end) fault = fault ≡ record { kind = Stray; at = end - 1 }
IsAtFault (leaf form) fault = ⊥
IsAtFault (faulty found) fault = fault ≡ found

-- What stands before the lexeme at fault could still become forms, and with it nothing can.
pub record IsFirstFault (words : List Lexeme) (fault : PlainFault) : Type 0 where
  pub before : List Lexeme
  pub word : Lexeme
  pub behind : List Lexeme
  pub parts : words ≡ before ++ word ∷ behind
  pub begun : CanBeClosed before
  pub refused : CannotGoOn (before ++ word ∷ [])
  pub is : IsAtFault word fault

-- With a closing parenthesis for each list that is open, the grammar gives the text forms, which are not too deep.
pub record CanBeCompleted (text : List ℕ) : Type 0 where
  pub opens : List ℕ
  pub forms : PlainForms
  pub given : Gives whole_text 0 (text ++ map (λ start. 41) opens) forms
  pub shallow : nesting_of forms ≤ nesting_limit

-- The text begins with bytes that closing parentheses make a text of the grammar. The fault stands right after them; or it is an escape
-- that there is not, further on.
pub record StandsBefore (text : List ℕ) (fault : PlainFault) : Type 0 where
  pub front : List ℕ
  pub behind : List ℕ
  pub parts : text ≡ front ++ behind
  pub begun : CanBeCompleted front
  pub place : (fault.at ≡ length front) ⊎ ((fault.kind ≡ Escape) × (length front < fault.at))
