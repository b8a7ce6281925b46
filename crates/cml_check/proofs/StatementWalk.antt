-- The statements of forms.
use Rattle.std.proofs.Common.{◌≡◌, ◌≢◌, ◌<◌, ℕ, true, false, List, [], ◌∷◌, length, Some, Ok, refl, ap, ◌&&◌, nat_lt}
use mathlib.Core.Bool.{true≢false}
use Rattle.cml_text.specs.declared.sexpr.Span.{Span}
use Rattle.cml_text.specs.Forms.{PlainSexpr, plain_list, PlainForms, no_forms, forms_and, plain_forms, span_of}
use Rattle.cml_check.specs.declared.fault.CheckKind.TheVariants.{Form}
use Rattle.cml_check.specs.declared.statement.Scope.{Scope}
use Rattle.cml_check.specs.declared.word.Tested.{Tested}
use Rattle.cml_check.specs.declared.word.Word.TheVariants as word
use Rattle.std.proofs.lemmas.Bool.{lt-ltb, and_from}
use Rattle.cml_check.specs.Syntax.{Name, PlainExpr, PlainSource, PlainStmts, let_be, if_so, expr_map, stmt_map, source_map, stmts_map, name_at}
use Rattle.cml_check.specs.Names.{with_name, free_name}
use Rattle.cml_check.specs.Expressions.{expr_in}
use Rattle.cml_check.specs.InOrder.{expr_fits, source_fits, stmt_fits, stmts_fit}
use Rattle.cml_check.proofs.WordLemmas.{tested_map, tested_fit}
use Rattle.cml_check.proofs.GrowthLemmas.{grows-with_name, grows-on, expr-grown, source-grown, stmts-grown}
use Rattle.cml_check.specs.Checked.{check_fault}
use Rattle.cml_check.specs.Words.{word_from}
use Rattle.cml_check.specs.Parts.{is_headed}
use Rattle.cml_check.specs.Heads.{PlainHead}
use Rattle.cml_check.specs.Statements.{tested_stmt, stmt_in, stmt_by, block_in, behind_do, stmts_in, effect_in, source_in}
use Rattle.cml_check.specs.StatementParts.{let_of, let_in, set_in, if_of, if_in, tested_of, tested_in, return_in, Grows}

pub headed_stmt : (heads : List PlainHead) (scope : Scope) (form first : PlainSexpr) (behind : PlainForms) → form ≡ plain_list (span_of form) (forms_and first behind) →
    stmt_in heads scope form ≡ stmt_by heads scope (span_of form) (word_from first) behind
unfolding stmt_in
headed_stmt heads scope form first behind h = ap (stmt_in heads scope) h

pub no_stmt : (heads : List PlainHead) (scope : Scope) (form : PlainSexpr) → is_headed form ≡ false → stmt_in heads scope form ≡ check_fault Form (span_of form)
unfolding stmt_in
no_stmt heads scope (plain_list span (forms_and first behind)) h = absurd (true≢false h)
no_stmt heads scope form h = refl

pub headed_block : (heads : List PlainHead) (scope : Scope) (form first : PlainSexpr) (behind : PlainForms) → form ≡ plain_list (span_of form) (forms_and first behind) →
    block_in heads scope form ≡ behind_do (span_of form) (word_from first) (stmts_in heads scope behind)
unfolding block_in
headed_block heads scope form first behind h = ap (block_in heads scope) h

pub no_block : (heads : List PlainHead) (scope : Scope) (form : PlainSexpr) → is_headed form ≡ false → block_in heads scope form ≡ check_fault Form (span_of form)
unfolding block_in
no_block heads scope (plain_list span (forms_and first behind)) h = absurd (true≢false h)
no_block heads scope form h = refl

pub list_let : (heads : List PlainHead) (scope : Scope) (span : Span) (forms : PlainForms) → stmt_by heads scope span (Some word.Let) forms ≡ let_in heads scope span forms
unfolding stmt_by let_in let_of effect_in
list_let heads scope span (forms_and x (forms_and r no_forms)) = refl
list_let heads scope span forms = refl

pub list_set : (heads : List PlainHead) (scope : Scope) (span : Span) (forms : PlainForms) → stmt_by heads scope span (Some word.Set) forms ≡ set_in heads scope span forms
unfolding stmt_by set_in effect_in
list_set heads scope span (forms_and x (forms_and r no_forms)) = refl
list_set heads scope span forms = refl

pub list_if : (heads : List PlainHead) (scope : Scope) (span : Span) (forms : PlainForms) → stmt_by heads scope span (Some word.If) forms ≡ if_in heads scope span forms
unfolding stmt_by if_in if_of effect_in
list_if heads scope span (forms_and p (forms_and x (forms_and y no_forms))) = refl
list_if heads scope span forms = refl

pub list_tested : (heads : List PlainHead) (scope : Scope) (span : Span) (test : Tested) (forms : PlainForms)
    → stmt_by heads scope span (Some (word.Tested test)) forms ≡ tested_in heads scope span test forms
unfolding stmt_by tested_in tested_of effect_in
list_tested heads scope span test no_forms = refl
list_tested heads scope span test (forms_and p forms) = refl

pub list_return : (heads : List PlainHead) (scope : Scope) (span : Span) (forms : PlainForms) → stmt_by heads scope span (Some word.Return) forms ≡ return_in heads scope span forms
unfolding stmt_by return_in effect_in
list_return heads scope span (forms_and p no_forms) = refl
list_return heads scope span forms = refl

pub no_let : (heads : List PlainHead) (scope : Scope) (span : Span) (behind : List PlainSexpr) → length behind ≢ 2 → let_in heads scope span (plain_forms behind) ≡ check_fault Form span
unfolding let_in
no_let heads scope span (p ∷ q ∷ []) h = absurd (h refl)
no_let heads scope span behind h = refl

pub no_set : (heads : List PlainHead) (scope : Scope) (span : Span) (behind : List PlainSexpr) → length behind ≢ 2 → set_in heads scope span (plain_forms behind) ≡ check_fault Form span
unfolding set_in
no_set heads scope span (p ∷ q ∷ []) h = absurd (h refl)
no_set heads scope span behind h = refl

pub no_if : (heads : List PlainHead) (scope : Scope) (span : Span) (behind : List PlainSexpr) → length behind ≢ 3 → if_in heads scope span (plain_forms behind) ≡ check_fault Form span
unfolding if_in
no_if heads scope span (p ∷ q ∷ r ∷ []) h = absurd (h refl)
no_if heads scope span behind h = refl

pub no_return : (heads : List PlainHead) (scope : Scope) (span : Span) (behind : List PlainSexpr) → length behind ≢ 1 → return_in heads scope span (plain_forms behind) ≡ check_fault Form span
unfolding return_in
no_return heads scope span (p ∷ []) h = absurd (h refl)
no_return heads scope span behind h = refl

pub let_gives : (ar : List ℕ) (heads : List PlainHead) (scope : Scope) (x r : PlainSexpr) (name : Name) (new : List Name) (slot : ℕ) (given : PlainSource ℕ) →
    free_name x ≡ Ok name → source_in heads scope.names r ≡ Ok (source_map (name_at scope.names) given) → new ≡ with_name scope.names name → name_at new slot ≡ name →
    source_fits ar (length scope.names) given ≡ true →
    let_of heads scope x r ≡ Ok (let_be (name_at new slot) (source_map (name_at new) given), record scope { names = new })
unfolding let_of
let_gives ar heads scope x r name new slot given p q is named fits =
    let grows : Grows scope.names new = rw is (grows-with_name scope.names name) in
    let grown = source-grown ar scope.names new grows given fits in
    rw (p, q, named, ← grown.0, is) refl

pub let_fits : (ar : List ℕ) (old new : List Name) (name : Name) (slot : ℕ) (given : PlainSource ℕ) → new ≡ with_name old name → slot < length new → source_fits ar (length old) given ≡ true →
    (nat_lt slot (length new) && source_fits ar (length new) given) ≡ true
let_fits ar old new name slot given is lt fits =
    let grows : Grows old new = rw is (grows-with_name old name) in
    and_from _ _ (lt-ltb slot (length new) lt) (source-grown ar old new grows given fits).1

pub if_gives : (ar : List ℕ) (heads : List PlainHead) (scope mid new : Scope) (p x y : PlainSexpr) (e : PlainExpr ℕ) (a b : PlainStmts ℕ) →
    expr_in heads scope.names p ≡ Ok (expr_map (name_at scope.names) e) → expr_fits ar (length scope.names) e ≡ true →
    block_in heads scope x ≡ Ok (stmts_map (name_at mid.names) a, mid) → stmts_fit ar (length mid.names) a ≡ true → Grows scope.names mid.names →
    block_in heads mid y ≡ Ok (stmts_map (name_at new.names) b, new) → Grows mid.names new.names →
    if_of heads scope p x y ≡ Ok (if_so (expr_map (name_at new.names) e) (stmts_map (name_at new.names) a) (stmts_map (name_at new.names) b), new)
unfolding if_of
if_gives ar heads scope mid new p x y e a b pe fe pa fa g pb h =
    rw (pe, pa, pb, (expr-grown ar scope.names new.names (grows-on _ _ _ g h) e fe).0, (stmts-grown ar mid.names new.names h a fa).0) refl

pub if_fits : (ar : List ℕ) (old mid new : List Name) (e : PlainExpr ℕ) (a b : PlainStmts ℕ) → expr_fits ar (length old) e ≡ true → stmts_fit ar (length mid) a ≡ true →
    stmts_fit ar (length new) b ≡ true → Grows old mid → Grows mid new → (expr_fits ar (length new) e && stmts_fit ar (length new) a && stmts_fit ar (length new) b) ≡ true
if_fits ar old mid new e a b fe fa fb g h =
    and_from _ _ (and_from _ _ (expr-grown ar old new (grows-on _ _ _ g h) e fe).1 (stmts-grown ar mid new h a fa).1) fb

pub tested_gives : (ar : List ℕ) (heads : List PlainHead) (scope new : Scope) (test : Tested) (p : PlainSexpr) (forms : PlainForms) (e : PlainExpr ℕ) (a : PlainStmts ℕ) →
    expr_in heads scope.names p ≡ Ok (expr_map (name_at scope.names) e) → expr_fits ar (length scope.names) e ≡ true →
    stmts_in heads scope forms ≡ Ok (stmts_map (name_at new.names) a, new) → Grows scope.names new.names →
    tested_of heads scope test p forms ≡ Ok (stmt_map (name_at new.names) (tested_stmt test e a), new)
unfolding tested_of
tested_gives ar heads scope new test p forms e a pe fe pa g =
    rw (pe, pa, tested_map (name_at new.names) test e a, (expr-grown ar scope.names new.names g e fe).0) refl

pub tested_fits : (ar : List ℕ) (old new : List Name) (test : Tested) (e : PlainExpr ℕ) (a : PlainStmts ℕ) → expr_fits ar (length old) e ≡ true → stmts_fit ar (length new) a ≡ true →
    Grows old new → stmt_fits ar (length new) (tested_stmt test e a) ≡ true
tested_fits ar old new test e a fe fa g = tested_fit ar (length new) test e a (expr-grown ar old new g e fe).1 fa
