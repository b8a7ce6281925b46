-- A text without a fault spells forms.
use Rattle.std.proofs.Common.{◌≡◌, ℕ, zero, suc, ◌+◌, ◌-◌, ◌<◌, ◌≤◌, eqb, leb, ltb, List, [], ◌∷◌, ◌++◌, length}
use Rattle.std.proofs.Common.{take, refl, ap, sym, ◌∙◌, subst, arith, Option, Some, None, append_assoc, inl, inr}
use Rattle.std.proofs.Common.{◌⊎◌, ℤ}
use Rattle.std.specs.List.{prefix_len}
use Rattle.std.specs.Str.{IsUtf8, is_utf8}
use Rattle.std.proofs.lemmas.Bool.Decides.{nat_tests}
use Rattle.std.proofs.lemmas.Bool.{false≢true}
use Rattle.std.proofs.lemmas.Str.{IsUtf8-from_is_utf8, is_utf8-from_IsUtf8}
use Rattle.cml_text.specs.declared.sexpr.Span.{Span}
use Rattle.cml_text.specs.declared.fault.FaultKind.TheVariants.{Deep, Stray, Unclosed}
use Rattle.cml_text.specs.Forms.{PlainSexpr, plain_list, PlainForms, no_forms, forms_and, plain_forms, forms_list}
use Rattle.cml_text.specs.Lexemes.{is_separator, is_token_byte, is_number, is_name, number_value, number_lexeme}
use Rattle.cml_text.specs.Lexemes.{Literal, closed, endless, no_escape, literal, Lexeme, opening, closing, leaf}
use Rattle.cml_text.specs.Lexemes.{faulty, token_lexeme, literal_lexeme, beginning, lexemes}
use Rattle.cml_text.specs.Texts.{Spells, words, words_of, first_fault, fault_of}
use Rattle.cml_text.specs.Steps.{IsLeaf}
use Rattle.cml_text.specs.Laws.{SpelledOrFaulty}
use Rattle.cml_text.proofs.WordLemmas.{cases_test}
use Rattle.cml_text.proofs.TextLemmas.{not_deep}
use Rattle.cml_text.proofs.AnswerLemmas.{fault_long, fault_utf8, fault_left, fault_clash}

-- every form among the lexemes is spelled by one lexeme
abbrev pub AreLeaves : List Lexeme → Type 0
AreLeaves [] = Unit {0}
AreLeaves (opening at ∷ rest) = AreLeaves rest
AreLeaves (closing end ∷ rest) = AreLeaves rest
AreLeaves (leaf form ∷ rest) = IsLeaf form × AreLeaves rest
AreLeaves (faulty fault ∷ rest) = AreLeaves rest

pub leaves-append : (front back : List Lexeme) → AreLeaves front → AreLeaves back → AreLeaves (front ++ back)
leaves-append [] back p q = q
leaves-append (opening at ∷ front) back p q = leaves-append front back p q
leaves-append (closing end ∷ front) back p q = leaves-append front back p q
leaves-append (leaf form ∷ front) back p q = (p.0, leaves-append front back p.1 q)
leaves-append (faulty fault ∷ front) back p q = leaves-append front back p q

number_leaf : (at : ℕ) (token : List ℕ) (value : Option ℤ) → AreLeaves (number_lexeme at token value ∷ [])
number_leaf at token None = tt
number_leaf at token (Some value) = (refl, tt)

token_leaf : (at : ℕ) (token : List ℕ) → AreLeaves (token_lexeme at token ∷ [])
unfolding token_lexeme
token_leaf at token =
    elim (cases_test (is_number token)) [
      | inl e ↦ rw e (number_leaf at token (number_value token))
      | inr e ↦ elim (cases_test (is_name token)) [ inl e2 ↦ rw e (rw e2 (refl, tt)) | inr e2 ↦ rw e (rw e2 tt) ]
    ]

text_leaf : (at : ℕ) (found : Literal) → AreLeaves (literal_lexeme at found ∷ [])
text_leaf at (closed content more) = elim (cases_test (leb (length content) 4096)) [ inl e ↦ rw e (refl, tt) | inr e ↦ rw e tt ]
text_leaf at endless = tt
text_leaf at (no_escape place) = tt

beginning_leaf : (at b : ℕ) (bytes : List ℕ) → AreLeaves (beginning at b bytes).word
unfolding beginning
beginning_leaf at b bytes =
    elim (cases_test (is_separator b)) [
      | inl e ↦ rw e tt
      | inr e ↦
          elim (cases_test (eqb b 59)) [
            | inl e1 ↦ rw e (rw e1 tt)
            | inr e1 ↦
                elim (cases_test (eqb b 40)) [
                  | inl e2 ↦ rw e (rw e1 (rw e2 tt))
                  | inr e2 ↦
                      elim (cases_test (eqb b 41)) [
                        | inl e3 ↦ rw e (rw e1 (rw e2 (rw e3 tt)))
                        | inr e3 ↦
                            elim (cases_test (eqb b 34)) [
                              | inl e4 ↦ rw e (rw e1 (rw e2 (rw e3 (rw e4 (text_leaf at (literal bytes))))))
                              | inr e4 ↦ rw e (rw e1 (rw e2 (rw e3 (rw e4 (token_leaf at (b ∷ take (prefix_len is_token_byte bytes) bytes))))))
                            ]
                      ]
                ]
          ]
    ]

pub lexemes_leaves : (before at : ℕ) (bytes : List ℕ) → AreLeaves (lexemes before at bytes)
unfolding lexemes
lexemes_leaves zero at [] = tt
lexemes_leaves (suc before) at [] = tt
lexemes_leaves zero at (b ∷ bytes) =
    leaves-append (beginning at b bytes).word (lexemes (beginning at b bytes).more (at + 1) bytes) (beginning_leaf at b bytes) (lexemes_leaves (beginning at b bytes).more (at + 1) bytes)
lexemes_leaves (suc before) at (b ∷ bytes) = lexemes_leaves before (at + 1) bytes

-- the lexemes are forms, and a closing parenthesis with forms after it for each open list
abbrev pub Closes : List ℕ → List Lexeme → Type 0
Closes [] ws = (forms : PlainForms) × (ws ≡ words_of forms)
Closes (start ∷ opens) ws = (forms : PlainForms) × ((end : ℕ) × ((rest : List Lexeme) × ((ws ≡ words_of forms ++ closing end ∷ rest) × Closes opens rest)))

-- a form in front
closes_form : (opens : List ℕ) (ws : List Lexeme) (form : PlainSexpr) → Closes opens ws → Closes opens (words form ++ ws)
closes_form [] ws form c = (forms_and form c.0, ap (λ t. words form ++ t) c.1)
closes_form (start ∷ opens) ws form c = (
  forms_and form c.0,
  (
    c.1.0,
    (
      c.1.1.0,
      (ap (λ t. words form ++ t) c.1.1.1.0 ∙ sym (append_assoc (words form) (words_of c.0) (closing c.1.0 ∷ c.1.1.0)), c.1.1.1.1),
    ),
  ),
)

closes_opening : (at : ℕ) (opens : List ℕ) (ws : List Lexeme) → Closes (at ∷ opens) ws → Closes opens (opening at ∷ ws)
closes_opening at opens ws c =
    let span : Span = record { start = at; end = c.1.0 } in
    let whole : opening at ∷ ws ≡ words (plain_list span c.0) ++ c.1.1.0 =
    ap (λ t. opening at ∷ t) (c.1.1.1.0 ∙ sym (append_assoc (words_of c.0) (closing c.1.0 ∷ []) c.1.1.0)) in
    let P : List Lexeme → Type 0 = λ t. Closes opens t in
    subst P (sym whole) (closes_form opens c.1.1.0 (plain_list span c.0) c.1.1.1.1)

pub closes : (ws : List Lexeme) (opens : List ℕ) → AreLeaves ws → first_fault ws opens ≡ None → Closes opens ws
closes [] [] leaves none = (no_forms, refl)
closes [] (start ∷ opens) leaves none = absurd (fault_clash (Some (record { kind = Unclosed; at = start })) (record { kind = Unclosed; at = start }) none refl)
closes (opening at ∷ ws) opens leaves none =
    elim (cases_test (ltb (length opens) 256)) [
      | inl e ↦ let none' : first_fault ws (at ∷ opens) ≡ None = rw e at none in closes_opening at opens ws (closes ws (at ∷ opens) leaves none')
      | inr e ↦
          let none' : Some (record { kind = Deep; at = at }) ≡ None = rw e at none in
          absurd (fault_clash (Some (record { kind = Deep; at = at })) (record { kind = Deep; at = at }) none' refl)
    ]
closes (closing end ∷ ws) [] leaves none = absurd (fault_clash (Some (record { kind = Stray; at = end - 1 })) (record { kind = Stray; at = end - 1 }) none refl)
closes (closing end ∷ ws) (start ∷ opens) leaves none = (no_forms, (end, (ws, (refl, closes ws opens leaves none))))
closes (leaf form ∷ ws) opens leaves none =
    let P : List Lexeme → Type 0 = λ t. Closes opens (t ++ ws) in
    subst P leaves.0 (closes_form opens ws form (closes ws opens leaves.1 none))
closes (faulty fault ∷ ws) opens leaves none = absurd (fault_clash (Some fault) fault none refl)

pub plain_forms-forms_list : (forms : PlainForms) → plain_forms (forms_list forms) ≡ forms
plain_forms-forms_list no_forms = refl
plain_forms-forms_list (forms_and form forms) = ap (forms_and form) (plain_forms-forms_list forms)

short_or_long : (n : ℕ) → (n ≤ 1048576) ⊎ (1048576 < n)
short_or_long n = elim (cases_test (ltb 1048576 n)) [ inl e ↦ inr (grind (arith, nat_tests)) | inr e ↦ inl (grind (arith, nat_tests)) ]

whole : (text : List ℕ) → length text ≤ 1048576 → IsUtf8 text → fault_of text ≡ None → (forms : List PlainSexpr) × Spells text forms
whole text short utf8 none =
    let none' : first_fault (lexemes 0 0 text) [] ≡ None = sym (fault_left text short utf8) ∙ none in
    let c : Closes [] (lexemes 0 0 text) = closes (lexemes 0 0 text) [] (lexemes_leaves 0 0 text) none' in
    let same : plain_forms (forms_list c.0) ≡ c.0 = plain_forms-forms_list c.0 in
    let spelled : lexemes 0 0 text ≡ words_of (plain_forms (forms_list c.0)) = c.1 ∙ ap words_of (sym same) in
    (forms_list c.0, record { short = short; utf8 = utf8; spelled = spelled; shallow = not_deep (plain_forms (forms_list c.0)) (ap (λ ws. first_fault ws []) (sym spelled) ∙ none') })

pub spelled_or_faulty : SpelledOrFaulty
spelled_or_faulty text none =
    elim (short_or_long (length text)) [
      | inl short ↦
          elim (cases_test (is_utf8 text)) [
            | inl e ↦ whole text short (IsUtf8-from_is_utf8 text e) none
            | inr e ↦
                let never : IsUtf8 text → ⊥ = λ u. absurd (false≢true (sym e ∙ is_utf8-from_IsUtf8 text u)) in
                absurd (fault_clash (fault_of text) _ none (fault_utf8 text short never))
          ]
      | inr long ↦ absurd (fault_clash (fault_of text) _ none (fault_long text long))
    ]
