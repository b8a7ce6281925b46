-- The value of a line, by what reading it gives.
use Rattle.std.proofs.Common.{◌≡◌, ℕ, List, [], ◌∷◌}
use Rattle.cml_text.specs.Forms.{PlainSexpr}
use Rattle.cml_text.specs.Texts.{Spells}
use Rattle.cml_properties.specs.Lines.{IsValueOf, only}

-- of the forms that it spells
pub value_of_forms : (text : List ℕ) (forms : List PlainSexpr) → Spells text forms → ((others : List PlainSexpr) → Spells text others → forms ≡ others) →
    IsValueOf text (only forms)
value_of_forms text [] spells same = λ form one. let clash : [] ≡ form ∷ [] = same (form ∷ []) one in cc
value_of_forms text (form ∷ []) spells same = spells
value_of_forms text (form ∷ next ∷ forms) spells same = λ other one. let clash : form ∷ next ∷ forms ≡ other ∷ [] = same (other ∷ []) one in cc
