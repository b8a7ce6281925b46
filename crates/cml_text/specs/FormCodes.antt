-- A code of each form: a tree of numbers from which it can be read back.
use Rattle.std.specs.Prelude.{◌≡◌, ℕ, refl}
use Rattle.std.specs.Coded.{Coded, code_by, coded×, coded_ℕ, coded_ℤ, coded_list}
use base.Stored.{Gv, gnil, gnum, gcons}
use Rattle.cml_text.specs.declared.sexpr.Span.{Span}
use Rattle.cml_text.specs.Forms.{PlainSexpr, plain_name, plain_int, plain_text, plain_list, PlainForms, no_forms, forms_and}

abbrev pub span_code : Coded Span
span_code = code_by (ℕ × ℕ) (coded× coded_ℕ coded_ℕ) (λ s. (s.start, s.end)) (λ p. record { start = p.0; end = p.1 }) (λ _. refl)

abbrev mutual
  pub form_gv : PlainSexpr → Gv
  form_gv (plain_name s bytes) = gcons (gnum 0) (gcons (span_code.code s) ((coded_list coded_ℕ).code bytes))
  form_gv (plain_int s z) = gcons (gnum 1) (gcons (span_code.code s) (coded_ℤ.code z))
  form_gv (plain_text s bytes) = gcons (gnum 2) (gcons (span_code.code s) ((coded_list coded_ℕ).code bytes))
  form_gv (plain_list s forms) = gcons (gnum 3) (gcons (span_code.code s) (forms_gv forms))

  pub forms_gv : PlainForms → Gv
  forms_gv no_forms = gnil
  forms_gv (forms_and form forms) = gcons (form_gv form) (forms_gv forms)

mutual
  pub form_gv_inj : (x y : PlainSexpr) → form_gv x ≡ form_gv y → x ≡ y
  form_gv_inj (plain_name s a) (plain_name t b) p = let e = span_code.inj s t (cc) in let f = (coded_list coded_ℕ).inj a b (cc) in cc
  form_gv_inj (plain_int s a) (plain_int t b) p = let e = span_code.inj s t (cc) in let f = coded_ℤ.inj a b (cc) in cc
  form_gv_inj (plain_text s a) (plain_text t b) p = let e = span_code.inj s t (cc) in let f = (coded_list coded_ℕ).inj a b (cc) in cc
  form_gv_inj (plain_list s a) (plain_list t b) p = let e = span_code.inj s t (cc) in let f = forms_gv_inj a b (cc) in cc
  form_gv_inj _ _ p = cc

  pub forms_gv_inj : (x y : PlainForms) → forms_gv x ≡ forms_gv y → x ≡ y
  forms_gv_inj no_forms no_forms p = refl
  forms_gv_inj (forms_and a as_) (forms_and b bs) p = let e = form_gv_inj a b (cc) in let f = forms_gv_inj as_ bs (cc) in cc
  forms_gv_inj _ _ p = cc

abbrev pub form_code : Coded PlainSexpr
form_code = record { code = form_gv; inj = form_gv_inj }
