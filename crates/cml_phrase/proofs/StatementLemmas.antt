-- The statements of forms, part for part.
use Rattle.std.proofs.Common.{◌≡◌, ℕ, suc, ◌+◌, ◌<◌, ◌≤◌, ◌≢◌, false, List, [], ◌∷◌, ◌++◌, length, get_or, drop, refl, sym, ap, ◌∙◌, arith, append_assoc, append-nil}
use Rattle.std.proofs.Math.ListN.{drop_of_length-le}
use Rattle.std.proofs.Math.Seq.{drop-cons}
use Rattle.cml_text.specs.Forms.{PlainSexpr, plain_name, plain_int, plain_text, plain_list, PlainForms, no_forms, forms_and, plain_forms, span_of}
use Rattle.cml_phrase.specs.declared.keyword.Keyword.TheVariants as keyword
use Rattle.cml_phrase.specs.Keywords.{keyword_for}
use Rattle.cml_check.specs.Parts.{is_headed}
use Rattle.cml_check.specs.Words.{word_from}
use Rattle.cml_phrase.specs.Statements.{statements_in, inner_statements, block_statements, all_statements, body_statements}

-- one statement more was added
pub statements_next : (whole old new : List PlainSexpr) (forms : List PlainSexpr) (i : ℕ) (form : PlainSexpr) → i < length forms → form ≡ get_or forms i form →
    new ≡ old ++ statements_in form → old ++ all_statements (plain_forms (drop i forms)) ≡ whole → new ++ all_statements (plain_forms (drop (i + 1) forms)) ≡ whole
statements_next whole old new forms i form lt is added all =
    let up : suc i ≡ i + 1 = omega arith in
    let e : drop i forms ≡ form ∷ drop (i + 1) forms = drop-cons forms i form lt ∙ ap (λ t. t ∷ drop (suc i) forms) (sym is) ∙ ap (λ k. form ∷ drop k forms) up in
    ap (λ l. l ++ all_statements (plain_forms (drop (i + 1) forms))) added
    ∙ append_assoc old (statements_in form) (all_statements (plain_forms (drop (i + 1) forms)))
    ∙ ap (λ fs. old ++ all_statements (plain_forms fs)) (sym e)
    ∙ all

pub statements_all : (whole found : List PlainSexpr) (forms : List PlainSexpr) (i : ℕ) → length forms ≤ i → found ++ all_statements (plain_forms (drop i forms)) ≡ whole → found ≡ whole
statements_all whole found forms i le all = sym (append-nil found) ∙ ap (λ fs. found ++ all_statements (plain_forms fs)) (sym (drop_of_length-le forms le)) ∙ all

-- a statement that is a list
pub headed_statements : (old first_added new : List PlainSexpr) (form first : PlainSexpr) (behind : PlainForms) → form ≡ plain_list (span_of form) (forms_and first behind) →
    first_added ≡ old ++ form ∷ [] → new ≡ first_added ++ inner_statements (keyword_for (word_from first)) behind → new ≡ old ++ statements_in form
headed_statements old first_added new form first behind is put added =
    added
    ∙ ap (λ l. l ++ inner_statements (keyword_for (word_from first)) behind) put
    ∙ append_assoc old (form ∷ []) (inner_statements (keyword_for (word_from first)) behind)
    ∙ ap (λ f. old ++ f ∷ inner_statements (keyword_for (word_from first)) behind) is
    ∙ ap (λ l. old ++ l) (sym (ap statements_in is))

-- a form that is none
pub no_statements : (form : PlainSexpr) → is_headed form ≡ false → statements_in form ≡ form ∷ []
no_statements (plain_name span bytes) h = refl
no_statements (plain_int span value) h = refl
no_statements (plain_text span bytes) h = refl
no_statements (plain_list span no_forms) h = refl
no_statements (plain_list span (forms_and first behind)) h = cc

-- the statements of a branch
pub headed_block : (old new : List PlainSexpr) (form first : PlainSexpr) (behind : PlainForms) → form ≡ plain_list (span_of form) (forms_and first behind) →
    new ≡ old ++ all_statements behind → new ≡ old ++ block_statements form
headed_block old new form first behind is added = added ∙ ap (λ l. old ++ l) (sym (ap block_statements is))

pub no_block : (old : List PlainSexpr) (form : PlainSexpr) → is_headed form ≡ false → old ≡ old ++ block_statements form
no_block old (plain_name span bytes) h = sym (append-nil old)
no_block old (plain_int span value) h = sym (append-nil old)
no_block old (plain_text span bytes) h = sym (append-nil old)
no_block old (plain_list span no_forms) h = sym (append-nil old)
no_block old (plain_list span (forms_and first behind)) h = cc

-- statements in which no other stands
pub none_added : (old : List PlainSexpr) → old ≡ old ++ []
none_added old = sym (append-nil old)

pub no_branches : (old : List PlainSexpr) (behind : List PlainSexpr) → length behind ≢ 3 → old ≡ old ++ inner_statements keyword.If (plain_forms behind)
no_branches old [] h = sym (append-nil old)
no_branches old (p ∷ []) h = sym (append-nil old)
no_branches old (p ∷ x ∷ []) h = sym (append-nil old)
no_branches old (p ∷ x ∷ y ∷ []) h = absurd (h refl)
no_branches old (p ∷ x ∷ y ∷ z ∷ behind) h = sym (append-nil old)

pub both_added : (old mid new : List PlainSexpr) (x y : PlainSexpr) → mid ≡ old ++ block_statements x → new ≡ mid ++ block_statements y → new ≡ old ++ (block_statements x ++ block_statements y)
both_added old mid new x y first second = second ∙ ap (λ l. l ++ block_statements y) first ∙ append_assoc old (block_statements x) (block_statements y)

pub both_branches : (old new : List PlainSexpr) (behind : List PlainSexpr) (x y : PlainSexpr) → 3 ≤ length behind → length behind < 4 → x ≡ get_or behind 1 x → y ≡ get_or behind 2 y →
    new ≡ old ++ (block_statements x ++ block_statements y) → new ≡ old ++ inner_statements keyword.If (plain_forms behind)
both_branches old new [] x y lo hi is1 is2 added = absurd (omega arith)
both_branches old new (p ∷ []) x y lo hi is1 is2 added = absurd (omega arith)
both_branches old new (p ∷ a ∷ []) x y lo hi is1 is2 added = absurd (omega arith)
both_branches old new (p ∷ a ∷ b ∷ []) x y lo hi is1 is2 added = added
    ∙ ap (λ v. old ++ (block_statements v ++ block_statements y)) is1
    ∙ ap (λ w. old ++ (block_statements a ++ block_statements w)) is2
both_branches old new (p ∷ a ∷ b ∷ z ∷ behind) x y lo hi is1 is2 added = absurd (omega arith)

pub no_body : (old : List PlainSexpr) (behind : List PlainSexpr) → length behind < 1 → old ≡ old ++ inner_statements keyword.Tested (plain_forms behind)
no_body old [] h = sym (append-nil old)
no_body old (p ∷ behind) h = absurd (omega arith)

-- too few parts for a function with statements
pub short_function : (old : List PlainSexpr) (forms : List PlainSexpr) → length forms < 3 → old ≡ old ++ body_statements (plain_forms forms)
short_function old [] h = sym (append-nil old)
short_function old (a ∷ []) h = sym (append-nil old)
short_function old (a ∷ b ∷ []) h = sym (append-nil old)
short_function old (a ∷ b ∷ c ∷ forms) h = absurd (omega arith)
