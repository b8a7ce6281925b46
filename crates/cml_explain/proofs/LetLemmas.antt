-- The names that a function declares.
use Rattle.std.proofs.Common.{◌≡◌, ℕ, ℤ, ◌+◌, ◌<◌, ◌≤◌, List, [], ◌∷◌, ◌++◌, length, get_or, drop, refl, sym, ap, ◌∙◌, arith, append_assoc}
use Rattle.std.proofs.Math.ListN.{drop_of_length-le}
use Rattle.std.proofs.lemmas.List.{append-nil}
use Rattle.cml_text.specs.declared.sexpr.Span.{Span}
use Rattle.cml_text.specs.Forms.{PlainSexpr, plain_name, plain_int, plain_text, plain_list, forms_and, plain_forms, span_of}
use Rattle.cml_explain.specs.Names.{PlainDeclared, let_declared, lets_in, lets_among}
use Rattle.cml_explain.proofs.PieceLemmas.{forms_back}
use Rattle.cml_explain.proofs.StandLemmas.{drop-at}

pub short_let : (span : Span) (forms : List PlainSexpr) → length forms < 2 → let_declared span forms ≡ []
short_let span [] h = refl
short_let span (a ∷ []) h = refl
short_let span (a ∷ b ∷ forms) h = absurd (omega arith)

assoc3 : (a b c : List PlainDeclared) → (a ++ b) ++ c ≡ a ++ (b ++ c)
assoc3 a b c = simp append_assoc

-- a list: what it declares itself, and what is declared in its forms
pub lets_listed : (before middle later : List PlainDeclared) (form : PlainSexpr) (forms : List PlainSexpr) (span : Span) →
    form ≡ plain_list (span_of form) (plain_forms forms) → span ≡ span_of form →
    middle ≡ before ++ let_declared span forms → later ≡ middle ++ lets_among (plain_forms forms) → later ≡ before ++ lets_in form
unfolding lets_in
lets_listed before middle later form forms span is at own inner =
    inner
    ∙ ap (λ m. m ++ lets_among (plain_forms forms)) (own ∙ ap (λ s. before ++ let_declared s forms) at)
    ∙ assoc3 before (let_declared (span_of form) forms) (lets_among (plain_forms forms))
    ∙ ap (λ fs. before ++ (let_declared (span_of form) fs ++ lets_among (plain_forms forms))) (sym (forms_back forms))
    ∙ ap (λ f. before ++ lets_in f) (sym is)

pub lets_name : (found : List PlainDeclared) (form : PlainSexpr) (name : List ℕ) → form ≡ plain_name (span_of form) name → found ≡ found ++ lets_in form
unfolding lets_in
lets_name found form name is = sym (ap (λ f. found ++ lets_in f) is ∙ append-nil found)

pub lets_int : (found : List PlainDeclared) (form : PlainSexpr) (z : ℤ) → form ≡ plain_int (span_of form) z → found ≡ found ++ lets_in form
unfolding lets_in
lets_int found form z is = sym (ap (λ f. found ++ lets_in f) is ∙ append-nil found)

pub lets_text : (found : List PlainDeclared) (form : PlainSexpr) (text : List ℕ) → form ≡ plain_text (span_of form) text → found ≡ found ++ lets_in form
unfolding lets_in
lets_text found form text is = sym (ap (λ f. found ++ lets_in f) is ∙ append-nil found)

-- from one form to the next
pub lets-next : (before now later all : List PlainDeclared) (forms : List PlainSexpr) (i : ℕ) (form : PlainSexpr) →
    i < length forms → form ≡ get_or forms i form → later ≡ now ++ lets_in form →
    now ++ lets_among (plain_forms (drop i forms)) ≡ before ++ all →
    later ++ lets_among (plain_forms (drop (i + 1) forms)) ≡ before ++ all
unfolding lets_among
lets-next before now later all forms i form lt is next inv =
    let s : now ++ lets_among (forms_and form (plain_forms (drop (i + 1) forms))) ≡ before ++ all = ap (λ fs. now ++ lets_among (plain_forms fs)) (sym (drop-at forms i form lt is)) ∙ inv in
    rw (next, append_assoc) s

pub lets-end : (before now all : List PlainDeclared) (forms : List PlainSexpr) (i : ℕ) → length forms ≤ i →
    now ++ lets_among (plain_forms (drop i forms)) ≡ before ++ all → now ≡ before ++ all
unfolding lets_among
lets-end before now all forms i le inv =
    let s : now ++ lets_among (plain_forms []) ≡ before ++ all = ap (λ fs. now ++ lets_among (plain_forms fs)) (sym (drop_of_length-le forms le)) ∙ inv in
    sym (append-nil now) ∙ s
