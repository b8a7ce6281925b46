-- The lines that a run printed.
use Rattle.std.specs.Prelude.{ℕ, List, [], ◌∷◌, Option, Some, None}
use denote.Ref.{Bor}
use Rattle.cml_text.specs.Forms.{PlainSexpr}
use Rattle.cml_text.specs.Texts.{Spells}

-- a line: its bytes, and the value that it spells, if it spells one form
pub record PlainLine : Type 0 where
  pub text : List ℕ
  pub value : Option PlainSexpr

-- The value is the one form that the text spells; there is none where the text spells another number of forms, or is no text of forms.
abbrev pub IsValueOf : List ℕ → Option PlainSexpr → Type 0
IsValueOf text (Some form) = Spells text (form ∷ [])
IsValueOf text None = (form : PlainSexpr) → Spells text (form ∷ []) → ⊥

-- the only element of a list, if it has one element
abbrev pub only : {A : Type 0} → List A → Option A
only (a ∷ []) = Some a
only _ = None

-- the value that is pointed to, if there is one
abbrev pub value_seen : Option (Bor PlainSexpr) → Option PlainSexpr
value_seen (Some form) = Some form.now
value_seen None = None
