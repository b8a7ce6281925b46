-- The lexemes of forms: how deep they go, and that they tell the forms.
use Rattle.std.proofs.Common.{◌≡◌, ℕ, ◌+◌, ◌<◌, ◌≤◌, ltb, List, [], ◌∷◌, ◌++◌, length, refl, ap, sym, ◌∙◌, subst, arith, Some, None, append_assoc, ◌⊎◌, inl, inr}
use Rattle.std.proofs.lemmas.List.{append-nil}
use Rattle.std.proofs.lemmas.Bool.Decides.{nat_tests}
use Rattle.cml_text.specs.declared.sexpr.Span.{Span}
use Rattle.cml_text.specs.declared.fault.FaultKind.TheVariants.{Deep}
use Rattle.cml_text.specs.Faults.{PlainFault}
use Rattle.cml_text.specs.Forms.{PlainSexpr, plain_name, plain_int, plain_text, plain_list, PlainForms, no_forms, forms_and, plain_forms, forms_list, nesting, nesting_of}
use Rattle.cml_text.specs.Lexemes.{Lexeme, opening, closing, leaf, faulty}
use Rattle.cml_text.specs.Texts.{words, words_of, first_fault}
use Rattle.cml_text.proofs.WordLemmas.{cases_test}

-- The lexemes are passed without a fault, and the lists stay within the limit; or some fault is met, and they do not.
abbrev pub Passes : (deep : ℕ) (words rest : List Lexeme) (opens : List ℕ) → Type 0
Passes deep words rest opens =
    ((length opens + deep ≤ 256) × (first_fault (words ++ rest) opens ≡ first_fault rest opens))
    ⊎ ((256 < length opens + deep) × ((fault : PlainFault) × (first_fault (words ++ rest) opens ≡ Some fault)))

-- a list, given how its forms are passed inside it
list_passes : (span : Span) (forms : PlainForms) (rest : List Lexeme) (opens : List ℕ) → length opens ≤ 256 →
    (length (span.start ∷ opens) ≤ 256 → Passes (nesting_of forms) (words_of forms) (closing span.end ∷ rest) (span.start ∷ opens)) →
    Passes (nesting (plain_list span forms)) (words (plain_list span forms)) rest opens
list_passes span forms rest opens few inside =
    elim (cases_test (ltb (length opens) 256)) [
      | inl e ↦
          let room : length opens < 256 = grind (arith, nat_tests) in
          let regroup : (words_of forms ++ closing span.end ∷ []) ++ rest ≡ words_of forms ++ closing span.end ∷ rest = append_assoc (words_of forms) (closing span.end ∷ []) rest in
          elim (inside (omega arith)) [
            | inl a ↦ inl (omega (arith, a.0), rw e (ap (λ ws. first_fault ws (span.start ∷ opens)) regroup ∙ a.1))
            | inr a ↦ inr (omega (arith, a.0), (a.1.0, rw e (ap (λ ws. first_fault ws (span.start ∷ opens)) regroup ∙ a.1.1)))
          ]
      | inr e ↦
          let full : 256 ≤ length opens = grind (arith, nat_tests) in
          inr (omega arith, (record { kind = Deep; at = span.start }, rw e refl))
    ]

mutual
  pub form_passes : (form : PlainSexpr) (rest : List Lexeme) (opens : List ℕ) → length opens ≤ 256 → Passes (nesting form) (words form) rest opens
  form_passes (plain_name span bytes) rest opens few = inl (omega arith, refl)
  form_passes (plain_int span value) rest opens few = inl (omega arith, refl)
  form_passes (plain_text span bytes) rest opens few = inl (omega arith, refl)
  form_passes (plain_list span forms) rest opens few = list_passes span forms rest opens few (forms_pass forms (closing span.end ∷ rest) (span.start ∷ opens))

  pub forms_pass : (forms : PlainForms) (rest : List Lexeme) (opens : List ℕ) → length opens ≤ 256 → Passes (nesting_of forms) (words_of forms) rest opens
  forms_pass no_forms rest opens few = inl (omega arith, refl)
  forms_pass (forms_and form forms) rest opens few =
      let P : List Lexeme → Type 0 = λ ws.
      ((length opens + nesting_of (forms_and form forms) ≤ 256) × (first_fault ws opens ≡ first_fault rest opens))
      ⊎ ((256 < length opens + nesting_of (forms_and form forms)) × ((fault : PlainFault) × (first_fault ws opens ≡ Some fault))) in
      subst P (sym (append_assoc (words form) (words_of forms) rest))
      (elim (form_passes form (words_of forms ++ rest) opens few) [
        | inl a ↦
            elim (forms_pass forms rest opens few) [
              | inl b ↦ inl (omega (arith, a.0, b.0), a.1 ∙ b.1)
              | inr b ↦ inr (omega (arith, b.0), (b.1.0, a.1 ∙ b.1.1))
            ]
        | inr a ↦ inr (omega (arith, a.0), (a.1.0, a.1.1))
      ])

-- forms that are not too deep are passed without a fault
pub no_fault : (forms : PlainForms) → nesting_of forms ≤ 256 → first_fault (words_of forms) [] ≡ None
no_fault forms shallow =
    let e : words_of forms ++ [] ≡ words_of forms = append-nil (words_of forms) in
    elim (forms_pass forms [] [] (omega arith)) [
      | inl a ↦ ap (λ ws. first_fault ws []) (sym e) ∙ a.1
      | inr a ↦ absurd (omega (arith, a.0))
    ]

-- and forms that are passed without a fault are not too deep
pub not_deep : (forms : PlainForms) → first_fault (words_of forms) [] ≡ None → nesting_of forms ≤ 256
not_deep forms none =
    let e : words_of forms ++ [] ≡ words_of forms = append-nil (words_of forms) in
    elim (forms_pass forms [] [] (omega arith)) [
      | inl a ↦ omega (arith, a.0)
      | inr a ↦ let clash : None ≡ Some a.1.0 = sym none ∙ ap (λ ws. first_fault ws []) (sym e) ∙ a.1.1 in absurd (cc)
    ]

-- no form's lexemes begin with a closing parenthesis
abbrev pub IsEnd : List Lexeme → Type 0
IsEnd [] = Unit {0}
IsEnd (opening at ∷ rest) = ⊥
IsEnd (closing end ∷ rest) = Unit {0}
IsEnd (leaf form ∷ rest) = ⊥
IsEnd (faulty fault ∷ rest) = ⊥

no_end : (form : PlainSexpr) (rest : List Lexeme) → IsEnd (words form ++ rest) → ⊥
no_end (plain_name span bytes) rest h = h
no_end (plain_int span value) rest h = h
no_end (plain_text span bytes) rest h = h
no_end (plain_list span forms) rest h = h

pub span_same : (s t : Span) → s.start ≡ t.start → s.end ≡ t.end → s ≡ t
span_same s t p q = λ i. record { start = p i; end = q i }

mutual
  words_tell : (f g : PlainSexpr) (x y : List Lexeme) → words f ++ x ≡ words g ++ y → (f ≡ g) × (x ≡ y)
  words_tell (plain_name s a) (plain_name t b) x y e = (cc, cc)
  words_tell (plain_name s a) (plain_int t b) x y e = absurd (cc)
  words_tell (plain_name s a) (plain_text t b) x y e = absurd (cc)
  words_tell (plain_name s a) (plain_list t b) x y e = absurd (cc)
  words_tell (plain_int s a) (plain_name t b) x y e = absurd (cc)
  words_tell (plain_int s a) (plain_int t b) x y e = (cc, cc)
  words_tell (plain_int s a) (plain_text t b) x y e = absurd (cc)
  words_tell (plain_int s a) (plain_list t b) x y e = absurd (cc)
  words_tell (plain_text s a) (plain_name t b) x y e = absurd (cc)
  words_tell (plain_text s a) (plain_int t b) x y e = absurd (cc)
  words_tell (plain_text s a) (plain_text t b) x y e = (cc, cc)
  words_tell (plain_text s a) (plain_list t b) x y e = absurd (cc)
  words_tell (plain_list s a) (plain_name t b) x y e = absurd (cc)
  words_tell (plain_list s a) (plain_int t b) x y e = absurd (cc)
  words_tell (plain_list s a) (plain_text t b) x y e = absurd (cc)
  words_tell (plain_list s a) (plain_list t b) x y e =
      let starts : s.start ≡ t.start = cc in
      let inner : (words_of a ++ closing s.end ∷ []) ++ x ≡ (words_of b ++ closing t.end ∷ []) ++ y = cc in
      let inside : words_of a ++ closing s.end ∷ x ≡ words_of b ++ closing t.end ∷ y =
      sym (append_assoc (words_of a) (closing s.end ∷ []) x) ∙ inner ∙ append_assoc (words_of b) (closing t.end ∷ []) y in
      let both : (a ≡ b) × (closing s.end ∷ x ≡ closing t.end ∷ y) = words_of_tell a b (closing s.end ∷ x) (closing t.end ∷ y) tt tt inside in
      let ends : s.end ≡ t.end = cc in
      let spans : s ≡ t = span_same s t starts ends in
      (cc, cc)

  pub words_of_tell : (f g : PlainForms) (x y : List Lexeme) → IsEnd x → IsEnd y → words_of f ++ x ≡ words_of g ++ y → (f ≡ g) × (x ≡ y)
  words_of_tell no_forms no_forms x y p q e = (refl, e)
  words_of_tell no_forms (forms_and g gs) x y p q e =
      let f : x ≡ words g ++ (words_of gs ++ y) = e ∙ append_assoc (words g) (words_of gs) y in absurd (no_end g (words_of gs ++ y) (subst IsEnd f p))
  words_of_tell (forms_and f fs) no_forms x y p q e =
      let h : y ≡ words f ++ (words_of fs ++ x) = sym e ∙ append_assoc (words f) (words_of fs) x in absurd (no_end f (words_of fs ++ x) (subst IsEnd h q))
  words_of_tell (forms_and f fs) (forms_and g gs) x y p q e =
      let h : words f ++ (words_of fs ++ x) ≡ words g ++ (words_of gs ++ y) = sym (append_assoc (words f) (words_of fs) x) ∙ e ∙ append_assoc (words g) (words_of gs) y in
      let first : (f ≡ g) × (words_of fs ++ x ≡ words_of gs ++ y) = words_tell f g (words_of fs ++ x) (words_of gs ++ y) h in
      let rest : (fs ≡ gs) × (x ≡ y) = words_of_tell fs gs x y p q first.1 in
      (cc, rest.1)

pub forms_list-plain_forms : (forms : List PlainSexpr) → forms_list (plain_forms forms) ≡ forms
forms_list-plain_forms [] = refl
forms_list-plain_forms (form ∷ forms) = ap (λ fs. form ∷ fs) (forms_list-plain_forms forms)

-- the lexemes tell the forms
pub words_in_tell : (f g : List PlainSexpr) → words_of (plain_forms f) ≡ words_of (plain_forms g) → f ≡ g
words_in_tell f g e =
    let h : words_of (plain_forms f) ++ [] ≡ words_of (plain_forms g) ++ [] = ap (λ ws. ws ++ []) e in
    let both : (plain_forms f ≡ plain_forms g) × ([] ≡ []) = words_of_tell (plain_forms f) (plain_forms g) [] [] tt tt h in
    sym (forms_list-plain_forms f) ∙ ap forms_list both.0 ∙ forms_list-plain_forms g
