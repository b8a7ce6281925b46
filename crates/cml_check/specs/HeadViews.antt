-- The view of a head of `src/`, and what the heads of a script keep.
use Rattle.std.specs.Prelude.{◌≡◌, ℕ, ◌≤◌, List, length, map, refl}
use Rattle.std.specs.Coded.{Coded, code_by, coded×, coded_ℕ, coded_list}
use Rattle.cml_text.specs.Forms.{PlainForms, plain_forms}
use Rattle.cml_text.specs.FormCodes.{forms_gv, forms_gv_inj}
use Rattle.cml_check.specs.declared.head.Head.{Head}
use Rattle.cml_check.specs.Syntax.{Name}
use Rattle.cml_check.specs.Heads.{PlainHead, function_limit}

abbrev pub plain_head : Head → PlainHead
plain_head head = record { name = head.name.now; at = head.at; parameters = head.parameters; body = plain_forms head.body.now }

abbrev pub plain_heads : List Head → List PlainHead
plain_heads heads = map plain_head heads

abbrev pub head_names : List PlainHead → List Name
head_names heads = map (λ head. head.name) heads

-- the names are those of the heads, and there are no more heads than may be
pub record AreHeads (names : List Name) (heads : List PlainHead) : Type 0 where
  pub named : names ≡ head_names heads
  pub few : length heads ≤ function_limit

abbrev pub forms_code : Coded PlainForms
forms_code = record { code = forms_gv; inj = forms_gv_inj }

abbrev pub head_code : Coded PlainHead
head_code =
    code_by (List ℕ × (ℕ × (List Name × PlainForms))) (coded× (coded_list coded_ℕ) (coded× coded_ℕ (coded× (coded_list (coded_list coded_ℕ)) forms_code)))
    (λ h. (h.name, (h.at, (h.parameters, h.body)))) (λ p. record { name = p.0; at = p.1.0; parameters = p.1.1.0; body = p.1.1.1 }) (λ _. refl)
