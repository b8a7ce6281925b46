-- The parts of forms.
use Rattle.std.proofs.Common.{◌≡◌, List, [], ◌∷◌, refl, ap}
use Rattle.cml_text.specs.Forms.{PlainSexpr, plain_forms, forms_list}

pub forms_back : (forms : List PlainSexpr) → forms_list (plain_forms forms) ≡ forms
forms_back [] = refl
forms_back (form ∷ forms) = ap (λ rest. form ∷ rest) (forms_back forms)
