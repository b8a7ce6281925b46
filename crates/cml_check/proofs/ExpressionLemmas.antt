-- The expressions of forms.
use Rattle.std.proofs.Common.{◌≡◌, ℕ, zero, suc, ℤ, ◌+◌, ◌<◌, ◌≤◌, ◌≢◌, true, false, List, [], ◌∷◌, ◌++◌, length, get_or, map, drop, Some, Ok, Err, refl, sym, ap, ◌∙◌, arith}
use Rattle.std.proofs.Math.ListN.{drop_of_length-le}
use Rattle.std.proofs.lemmas.Bool.{and_parts, and_from}
use mathlib.Core.Bool.{true≢false}
use Rattle.cml_text.specs.declared.sexpr.Span.{Span}
use Rattle.cml_text.specs.Forms.{PlainSexpr, plain_name, plain_int, plain_text, plain_list, PlainForms, no_forms, forms_and, plain_forms, span_of, nesting, nesting_of}
use Rattle.cml_check.specs.declared.fault.CheckFault.{CheckFault}
use Rattle.cml_check.specs.declared.fault.CheckKind.TheVariants.{Form}
use Rattle.cml_check.specs.declared.syntax.Unary.{Unary}
use Rattle.cml_check.specs.declared.syntax.Binary.{Binary}
use Rattle.cml_check.specs.declared.word.Word.TheVariants as word
use Rattle.cml_check.specs.Syntax.{Name, PlainExpr, number, text, choose, guard, with_nack, PlainExprs, no_exprs, exprs_and, exprs, expr_map, exprs_map}
use Rattle.cml_check.specs.Checked.{Checked, ◌>>=◌, Fails, check_fault}
use Rattle.cml_check.specs.Words.{word_of, word_from}
use Rattle.cml_check.specs.Heads.{PlainHead, function_in}
use Rattle.cml_check.specs.Expressions.{count, name_in, expr_in, list_in, exprs_in, called_in}
use Rattle.cml_check.specs.ExpressionParts.{unary_in, binary_in, wrap_in, choose_in, guard_in, nack_in}
use Rattle.cml_check.specs.Parts.{is_headed}
use Rattle.cml_check.specs.InOrder.{expr_fits, exprs_fit, exprs_count}
use Rattle.cml_check.proofs.CheckedLemmas.{after, fails-as, drop-at}

-- how many forms a list has
pub count_forms : (forms : List PlainSexpr) → count (plain_forms forms) ≡ length forms
count_forms [] = refl
count_forms (form ∷ forms) = omega (arith, count_forms forms)

-- ---- one form

pub number_form : (heads : List PlainHead) (names : List Name) (form : PlainSexpr) (z : ℤ) → form ≡ plain_int (span_of form) z → expr_in heads names form ≡ Ok (number z)
unfolding expr_in
number_form heads names form z h = ap (expr_in heads names) h

pub text_form : (heads : List PlainHead) (names : List Name) (form : PlainSexpr) (bytes : List ℕ) → form ≡ plain_text (span_of form) bytes → expr_in heads names form ≡ Ok (text bytes)
unfolding expr_in
text_form heads names form bytes h = ap (expr_in heads names) h

pub name_form : (heads : List PlainHead) (names : List Name) (form : PlainSexpr) (name : Name) → form ≡ plain_name (span_of form) name →
    expr_in heads names form ≡ name_in names (span_of form) name (word_of name)
unfolding expr_in
name_form heads names form name h = ap (expr_in heads names) h

pub empty_form : (heads : List PlainHead) (names : List Name) (form : PlainSexpr) (forms : PlainForms) → is_headed form ≡ false → form ≡ plain_list (span_of form) forms →
    expr_in heads names form ≡ check_fault Form (span_of form)
unfolding expr_in
empty_form heads names (plain_list span no_forms) forms h e = refl
empty_form heads names (plain_list span (forms_and first behind)) forms h e = absurd (true≢false h)
empty_form heads names form forms h e = absurd cc

pub list_form : (heads : List PlainHead) (names : List Name) (form first : PlainSexpr) (behind : PlainForms) → form ≡ plain_list (span_of form) (forms_and first behind) →
    expr_in heads names form ≡ list_in heads names (span_of form) (word_from first) behind
unfolding expr_in
list_form heads names form first behind h = ap (expr_in heads names) h

-- two first parts alike
same_step : {A B : Type 0} (r : Checked A) (f g : A → Checked B) → ((x : A) → f x ≡ g x) → (r >>= f) ≡ (r >>= g)
same_step (Ok x) f g h = h x
same_step (Err e) f g h = refl

pub list_unary : (heads : List PlainHead) (names : List Name) (span : Span) (op : Unary) (forms : PlainForms) →
    list_in heads names span (Some (word.Unary op)) forms ≡ unary_in heads names span op forms
unfolding list_in unary_in
list_unary heads names span op (forms_and p no_forms) = refl
list_unary heads names span op forms = refl

pub no_unary : (heads : List PlainHead) (names : List Name) (span : Span) (op : Unary) (behind : List PlainSexpr) → length behind ≢ 1 →
    unary_in heads names span op (plain_forms behind) ≡ check_fault Form span
unfolding unary_in
no_unary heads names span op (p ∷ []) h = absurd (h refl)
no_unary heads names span op behind h = refl

pub no_binary : (heads : List PlainHead) (names : List Name) (span : Span) (op : Binary) (behind : List PlainSexpr) → length behind ≢ 2 →
    binary_in heads names span op (plain_forms behind) ≡ check_fault Form span
unfolding binary_in
no_binary heads names span op (p ∷ q ∷ []) h = absurd (h refl)
no_binary heads names span op behind h = refl

pub no_wrap : (heads : List PlainHead) (names : List Name) (span : Span) (behind : List PlainSexpr) → length behind < 2 →
    wrap_in heads names span (plain_forms behind) ≡ check_fault Form span
unfolding wrap_in
no_wrap heads names span (p ∷ q ∷ behind) h = absurd (omega arith)
no_wrap heads names span behind h = refl

pub list_binary : (heads : List PlainHead) (names : List Name) (span : Span) (op : Binary) (forms : PlainForms) →
    list_in heads names span (Some (word.Binary op)) forms ≡ binary_in heads names span op forms
unfolding list_in binary_in
list_binary heads names span op (forms_and p (forms_and q no_forms)) = refl
list_binary heads names span op forms = refl

pub list_wrap : (heads : List PlainHead) (names : List Name) (span : Span) (forms : PlainForms) →
    list_in heads names span (Some word.Wrap) forms ≡ wrap_in heads names span forms
unfolding list_in wrap_in
list_wrap heads names span (forms_and p (forms_and f forms)) = refl
list_wrap heads names span forms = refl

pub list_choose : (heads : List PlainHead) (names : List Name) (span : Span) (forms : PlainForms) →
    list_in heads names span (Some word.Choose) forms ≡ choose_in heads names forms
unfolding list_in exprs_in choose_in
list_choose heads names span no_forms = refl
list_choose heads names span (forms_and form forms) =
    sym (after (expr_in heads names form) (λ e. exprs_in heads names forms >>= λ es. Ok (exprs_and e es)) (λ es. Ok (choose es))
    ∙ same_step (expr_in heads names form) _ _ (λ e. after (exprs_in heads names forms) (λ es. Ok (exprs_and e es)) (λ es. Ok (choose es))))

abbrev paired : ℕ → PlainExprs Name → Checked (ℕ × PlainExprs Name)
paired n es = Ok (n, es)

abbrev making : (ℕ → PlainExprs Name → PlainExpr Name) → ℕ × PlainExprs Name → Checked (PlainExpr Name)
making make c = Ok (make c.0 c.1)

called_after : (heads : List PlainHead) (names : List Name) (n m : ℕ) (f : PlainSexpr) (forms : PlainForms) (make : ℕ → PlainExprs Name → PlainExpr Name) → n ≡ m →
    (function_in heads n f >>= λ k. exprs_in heads names forms >>= λ es. Ok (make k es))
    ≡ ((function_in heads m f >>= λ k. exprs_in heads names forms >>= paired k) >>= making make)
called_after heads names n m f forms make same =
    ap (λ n. function_in heads n f >>= λ k. exprs_in heads names forms >>= λ es. Ok (make k es)) same
    ∙ sym (after (function_in heads m f) (λ k. exprs_in heads names forms >>= paired k) (making make)
    ∙ same_step (function_in heads m f) _ _ (λ k. after (exprs_in heads names forms) (paired k) (making make)))

pub list_guard : (heads : List PlainHead) (names : List Name) (span : Span) (forms : PlainForms) →
    list_in heads names span (Some word.Guard) forms ≡ guard_in heads names span forms
unfolding list_in called_in guard_in
list_guard heads names span no_forms = refl
list_guard heads names span (forms_and f forms) = called_after heads names (count forms) (count forms + 0) f forms guard (omega arith)

pub list_nack : (heads : List PlainHead) (names : List Name) (span : Span) (forms : PlainForms) →
    list_in heads names span (Some word.WithNack) forms ≡ nack_in heads names span forms
unfolding list_in called_in nack_in
list_nack heads names span no_forms = refl
list_nack heads names span (forms_and f forms) = called_after heads names (count forms + 1) (count forms + 1) f forms with_nack refl

-- ---- the loop

abbrev pub onto : {V : Type 0} → List (PlainExpr V) → PlainExprs V → PlainExprs V
onto [] rest = rest
onto (e ∷ es) rest = exprs_and e (onto es rest)

abbrev pub front : {V : Type 0} → List (PlainExpr V) → Checked (PlainExprs V) → Checked (PlainExprs V)
front es found = found >>= λ rest. Ok (onto es rest)

onto-push : {V : Type 0} (es : List (PlainExpr V)) (e : PlainExpr V) (rest : PlainExprs V) → onto es (exprs_and e rest) ≡ onto (es ++ e ∷ []) rest
onto-push [] e rest = refl
onto-push (d ∷ es) e rest = ap (exprs_and d) (onto-push es e rest)

onto-nil : {V : Type 0} (es : List (PlainExpr V)) → onto es no_exprs ≡ exprs es
onto-nil [] = refl
onto-nil (e ∷ es) = ap (exprs_and e) (onto-nil es)

front-push : {V : Type 0} (es : List (PlainExpr V)) (e : PlainExpr V) (found : Checked (PlainExprs V)) → front es (found >>= λ rest. Ok (exprs_and e rest)) ≡ front (es ++ e ∷ []) found
front-push es e (Ok rest) = ap (λ x. Ok x) (onto-push es e rest)
front-push es e (Err f) = refl

pub exprs-map : {V W : Type 0} (f : V → W) (es : List (PlainExpr V)) → exprs_map f (exprs es) ≡ exprs (map (expr_map f) es)
exprs-map f [] = refl
exprs-map f (e ∷ es) = ap (exprs_and (expr_map f e)) (exprs-map f es)

pub exprs-count : {V : Type 0} (es : List (PlainExpr V)) → exprs_count (exprs es) ≡ length es
exprs-count [] = refl
exprs-count (e ∷ es) = omega (arith, exprs-count es)

pub exprs-fit_push : (arities : List ℕ) (slots : ℕ) (es : List (PlainExpr ℕ)) (e : PlainExpr ℕ) → exprs_fit arities slots (exprs es) ≡ true → expr_fits arities slots e ≡ true →
    exprs_fit arities slots (exprs (es ++ e ∷ [])) ≡ true
exprs-fit_push arities slots [] e h g = and_from (expr_fits arities slots e) true g refl
exprs-fit_push arities slots (d ∷ es) e h g =
    let p = and_parts (expr_fits arities slots d) (exprs_fit arities slots (exprs es)) h in
    and_from (expr_fits arities slots d) _ p.0 (exprs-fit_push arities slots es e p.1 g)

step : (heads : List PlainHead) (names : List Name) (forms : List PlainSexpr) (i : ℕ) (form : PlainSexpr) → i < length forms → form ≡ get_or forms i form →
    exprs_in heads names (plain_forms (drop i forms)) ≡ (expr_in heads names form >>= λ e. exprs_in heads names (plain_forms (drop (i + 1) forms)) >>= λ es. Ok (exprs_and e es))
unfolding exprs_in
step heads names forms i form lt is = ap (λ fs. exprs_in heads names (plain_forms fs)) (drop-at forms i form lt is)

pub expr-fails : (err : CheckFault) (heads : List PlainHead) (names : List Name) (forms : List PlainSexpr) (i : ℕ) (form : PlainSexpr) (es : List (PlainExpr Name)) (all : Checked (PlainExprs Name)) →
    i < length forms → form ≡ get_or forms i form → front es (exprs_in heads names (plain_forms (drop i forms))) ≡ all → Fails err (expr_in heads names form) → Fails err all
expr-fails err heads names forms i form es all lt is inv h =
    fails-as err (expr_in heads names form) _ all
    (sym (after (expr_in heads names form) (λ e. exprs_in heads names (plain_forms (drop (i + 1) forms)) >>= λ es. Ok (exprs_and e es)) (λ rest. Ok (onto es rest)))
    ∙ ap (front es) (sym (step heads names forms i form lt is)) ∙ inv) h

pub expr-next : (heads : List PlainHead) (names : List Name) (forms : List PlainSexpr) (i : ℕ) (form : PlainSexpr) (es : List (PlainExpr Name)) (e : PlainExpr Name) (all : Checked (PlainExprs Name)) →
    i < length forms → form ≡ get_or forms i form → front es (exprs_in heads names (plain_forms (drop i forms))) ≡ all → expr_in heads names form ≡ Ok e →
    front (es ++ e ∷ []) (exprs_in heads names (plain_forms (drop (i + 1) forms))) ≡ all
expr-next heads names forms i form es e all lt is inv h =
    sym (front-push es e (exprs_in heads names (plain_forms (drop (i + 1) forms))))
    ∙ ap (λ r. front es (r >>= λ e. exprs_in heads names (plain_forms (drop (i + 1) forms)) >>= λ es. Ok (exprs_and e es))) (sym h)
    ∙ ap (front es) (sym (step heads names forms i form lt is)) ∙ inv

pub expr-end : (heads : List PlainHead) (names : List Name) (forms : List PlainSexpr) (i : ℕ) (es : List (PlainExpr Name)) (all : Checked (PlainExprs Name)) →
    length forms ≤ i → front es (exprs_in heads names (plain_forms (drop i forms))) ≡ all → all ≡ Ok (exprs es)
unfolding exprs_in
expr-end heads names forms i es all le inv =
    sym inv ∙ ap (λ fs. front es (exprs_in heads names (plain_forms fs))) (drop_of_length-le forms le) ∙ ap (λ x. Ok x) (onto-nil es)

deepest : (forms : List PlainSexpr) (i : ℕ) (d : PlainSexpr) → i < length forms → nesting (get_or forms i d) ≤ nesting_of (plain_forms forms)
deepest [] i d lt = absurd (omega arith)
deepest (form ∷ forms) zero d lt = omega arith
deepest (form ∷ forms) (suc i) d lt = let h : nesting (get_or forms i d) ≤ nesting_of (plain_forms forms) = deepest forms i d (omega arith) in omega arith

-- a form of the list is no deeper than the list
pub member-below : (forms : List PlainSexpr) (i : ℕ) (form : PlainSexpr) → i < length forms → form ≡ get_or forms i form → nesting form ≤ nesting_of (plain_forms forms)
member-below forms i form lt is = rw is (deepest forms i form lt)
