-- The statements that are counted while they are read are those of the program.
use Rattle.std.proofs.Common.{◌≡◌, ℕ, ◌+◌, ◌<◌, ◌≤◌, Bool, true, false, List, [], ◌∷◌, ◌++◌, length, Option, Some, Ok, Err, refl, sym, ap, subst, ◌∙◌, arith, nat_lt}
use Rattle.std.specs.Prelude.{if◌then◌else◌}
use Rattle.std.proofs.lemmas.Bool.{ltb-true}
use Rattle.std.proofs.lemmas.List.Sums.{sum_by_push}
use Rattle.cml_text.specs.declared.sexpr.Span.{Span}
use Rattle.cml_text.specs.Forms.{PlainSexpr, plain_list, PlainForms, no_forms, forms_and, span_of}
use Rattle.cml_check.specs.declared.fault.CheckKind.TheVariants.{Limit}
use Rattle.cml_check.specs.declared.statement.Scope.{Scope}
use Rattle.cml_check.specs.declared.word.Tested.{Tested}
use Rattle.cml_check.specs.declared.word.Word.{Word}
use Rattle.cml_check.specs.declared.word.Word.TheVariants as word
use Rattle.cml_check.specs.Syntax.{Name, PlainExpr, PlainStmt, let_be, set_to, just_do, if_so, while_so, return_with, PlainStmts, no_stmts, stmts_and, PlainItem, stmt_map, stmts_map, written}
use Rattle.cml_check.specs.Checked.{Checked, ◌>>=◌, check_fault}
use Rattle.cml_check.specs.Words.{word_from}
use Rattle.cml_check.specs.Names.{variable_in, free_name}
use Rattle.cml_check.specs.Heads.{PlainHead}
use Rattle.cml_check.specs.Expressions.{expr_in}
use Rattle.cml_check.specs.Statements.{effect_in, source_in, tested_stmt, statement_counted, stmt_in, stmt_by, block_in, behind_do, stmts_in}
use Rattle.cml_check.specs.Shape.{function_by}
use Rattle.cml_check.specs.Sizes.{stmt_count, stmts_count, statements_of}
use Rattle.cml_check.proofs.WordLemmas.{tested_count}

-- from a count on: the statements were counted, and no limit was passed
abbrev Counts : ℕ → Checked (PlainStmts Name × Scope) → Type 0
Counts n (Ok f) = (f.1.statements ≡ n + stmts_count f.0) × (n ≤ 4096 → f.1.statements ≤ 4096)
Counts n (Err e) = Unit {0}

-- the same of one statement, which itself was counted before
abbrev CountsOne : ℕ → Checked (PlainStmt Name × Scope) → Type 0
CountsOne n (Ok f) = (f.1.statements + 1 ≡ n + stmt_count f.0) × (n ≤ 4096 → f.1.statements ≤ 4096)
CountsOne n (Err e) = Unit {0}

past : {A : Type 0} (n : ℕ) (r : Checked A) (f : A → Checked (PlainStmt Name × Scope)) → ((x : A) → CountsOne n (f x)) → CountsOne n (r >>= f)
past n (Ok x) f h = h x
past n (Err e) f h = tt

if_second : (n : ℕ) (p : PlainExpr Name) (x : PlainStmts Name × Scope) (b : Checked (PlainStmts Name × Scope)) → Counts n (Ok x) → Counts x.1.statements b →
    CountsOne n (b >>= λ y. Ok (if_so p x.0 y.0, y.1))
if_second n p x (Ok y) h g = (let q = h.0 in let r = g.0 in omega (arith, q, r), λ le. g.1 (h.1 le))
if_second n p x (Err e) h g = tt

if_first : (n : ℕ) (p : PlainExpr Name) (a : Checked (PlainStmts Name × Scope)) (b : Scope → Checked (PlainStmts Name × Scope)) → Counts n a → ((s : Scope) → Counts s.statements (b s)) →
    CountsOne n (a >>= λ x. b x.1 >>= λ y. Ok (if_so p x.0 y.0, y.1))
if_first n p (Ok x) b h g = if_second n p x (b x.1) h (g x.1)
if_first n p (Err e) b h g = tt

tested_one : (n : ℕ) (test : Tested) (p : PlainExpr Name) (a : Checked (PlainStmts Name × Scope)) → Counts n a → CountsOne n (a >>= λ x. Ok (tested_stmt test p x.0, x.1))
tested_one n test p (Ok x) h = (let q = h.0 in let one = tested_count test p x.0 in omega (arith, q, one), h.1)
tested_one n test p (Err e) h = tt

-- one statement was counted
abbrev Within : Scope → Checked Scope → Type 0
Within scope (Ok at) = (at.statements ≡ scope.statements + 1) × (at.statements ≤ 4096)
Within scope (Err e) = Unit {0}

counted_by : (scope : Scope) (span : Span) (test : Bool) → nat_lt scope.statements 4096 ≡ test →
    Within scope (if test then Ok (record scope { statements = scope.statements + 1 }) else check_fault Limit span)
counted_by scope span true is = let lt : scope.statements < 4096 = ltb-true scope.statements 4096 is in (refl, omega (arith, lt))
counted_by scope span false is = tt

counted_within : (scope : Scope) (span : Span) → Within scope (statement_counted scope span)
counted_within scope span = counted_by scope span (nat_lt scope.statements 4096) refl

behind_last : (n : ℕ) (s : PlainStmt Name × Scope) (rest : Checked (PlainStmts Name × Scope)) → s.1.statements ≡ n + stmt_count s.0 → s.1.statements ≤ 4096 → Counts s.1.statements rest →
    Counts n (rest >>= λ ss. Ok (stmts_and s.0 ss.0, ss.1))
behind_last n s (Ok ss) is le h = (let q = h.0 in omega (arith, is, q), λ _. h.1 le)
behind_last n s (Err e) is le h = tt

behind_first : (n : ℕ) (at : Scope) (first : Checked (PlainStmt Name × Scope)) (rest : Scope → Checked (PlainStmts Name × Scope)) → at.statements ≡ n + 1 → at.statements ≤ 4096 →
    CountsOne at.statements first → ((s : Scope) → Counts s.statements (rest s)) → Counts n (first >>= λ s. rest s.1 >>= λ ss. Ok (stmts_and s.0 ss.0, ss.1))
behind_first n at (Ok s) rest is le h g = behind_last n s (rest s.1) (let q = h.0 in omega (arith, is, q)) (h.1 le) (g s.1)
behind_first n at (Err e) rest is le h g = tt

behind_count : (scope : Scope) (found : Checked Scope) (first : Scope → Checked (PlainStmt Name × Scope)) (rest : Scope → Checked (PlainStmts Name × Scope)) → Within scope found →
    ((s : Scope) → CountsOne s.statements (first s)) → ((s : Scope) → Counts s.statements (rest s)) →
    Counts scope.statements (found >>= λ at. first at >>= λ s. rest s.1 >>= λ ss. Ok (stmts_and s.0 ss.0, ss.1))
behind_count scope (Ok at) first rest is h g = behind_first scope.statements at (first at) rest is.0 is.1 (h at) g
behind_count scope (Err e) first rest is h g = tt

behind_word : (n : ℕ) (span : Span) (first : Option Word) (found : Checked (PlainStmts Name × Scope)) → Counts n found → Counts n (behind_do span first found)
behind_word n span (Some word.Do) found h = h
behind_word n span first found h = tt

-- an effect is one statement
done : (heads : List PlainHead) (scope : Scope) (span : Span) (first : Option Word) (forms : PlainForms) →
    CountsOne scope.statements (effect_in heads scope.names span first forms >>= λ e. Ok (just_do e, scope))
done heads scope span first forms = past scope.statements (effect_in heads scope.names span first forms) _ (λ e. (refl, λ le. le))

mutual
  unfolding stmt_in stmt_by block_in stmts_in

  stmt_counts : (heads : List PlainHead) (scope : Scope) (form : PlainSexpr) → CountsOne scope.statements (stmt_in heads scope form)
  stmt_counts heads scope (plain_list span (forms_and first behind)) = by_counts heads scope span (word_from first) behind
  stmt_counts heads scope form = tt

  by_counts : (heads : List PlainHead) (scope : Scope) (span : Span) (first : Option Word) (forms : PlainForms) → CountsOne scope.statements (stmt_by heads scope span first forms)
  by_counts heads scope span (Some word.Let) (forms_and x (forms_and r no_forms)) =
      past scope.statements (free_name x) _ (λ name. past scope.statements (source_in heads scope.names r) _ (λ source. (refl, λ le. le)))
  by_counts heads scope span (Some word.Set) (forms_and x (forms_and p no_forms)) =
      past scope.statements (variable_in scope.names x) _ (λ name. past scope.statements (expr_in heads scope.names p) _ (λ e. (refl, λ le. le)))
  by_counts heads scope span (Some word.If) (forms_and p (forms_and x (forms_and y no_forms))) =
      past scope.statements (expr_in heads scope.names p) _
      (λ e. if_first scope.statements e (block_in heads scope x) (λ s. block_in heads s y)
      (block_counts heads scope x) (λ s. block_counts heads s y))
  by_counts heads scope span (Some (word.Tested test)) (forms_and p forms) =
      past scope.statements (expr_in heads scope.names p) _ (λ e. tested_one scope.statements test e (stmts_in heads scope forms) (stmts_counts heads scope forms))
  by_counts heads scope span (Some word.Return) (forms_and p no_forms) = past scope.statements (expr_in heads scope.names p) _ (λ e. (refl, λ le. le))
  by_counts heads scope span first forms = done heads scope span first forms

  block_counts : (heads : List PlainHead) (scope : Scope) (form : PlainSexpr) → Counts scope.statements (block_in heads scope form)
  block_counts heads scope (plain_list span (forms_and first behind)) =
      behind_word scope.statements span (word_from first) (stmts_in heads scope behind) (stmts_counts heads scope behind)
  block_counts heads scope form = tt

  stmts_counts : (heads : List PlainHead) (scope : Scope) (forms : PlainForms) → Counts scope.statements (stmts_in heads scope forms)
  stmts_counts heads scope no_forms = (omega arith, λ le. le)
  stmts_counts heads scope (forms_and form forms) =
      behind_count scope (statement_counted scope (span_of form)) (λ s. stmt_in heads s form) (λ s. stmts_in heads s forms) (counted_within scope (span_of form))
      (λ s. stmt_counts heads s form) (λ s. stmts_counts heads s forms)

-- names do not count
mutual
  stmt_same : {V W : Type 0} (f : V → W) (s : PlainStmt V) → stmt_count (stmt_map f s) ≡ stmt_count s
  stmt_same f (let_be v r) = refl
  stmt_same f (set_to v e) = refl
  stmt_same f (just_do e) = refl
  stmt_same f (if_so e a b) = rw (stmts_same f a, stmts_same f b) refl
  stmt_same f (while_so e a) = rw (stmts_same f a) refl
  stmt_same f (return_with e) = refl

  pub stmts_same : {V W : Type 0} (f : V → W) (ss : PlainStmts V) → stmts_count (stmts_map f ss) ≡ stmts_count ss
  stmts_same f no_stmts = refl
  stmts_same f (stmts_and s ss) = rw (stmt_same f s, stmts_same f ss) refl

abbrev CountsFunction : ℕ → Checked (PlainItem Name × ℕ) → Type 0
CountsFunction n (Ok f) = (f.1 ≡ n + stmts_count f.0.body) × (n ≤ 4096 → f.1 ≤ 4096)
CountsFunction n (Err e) = Unit {0}

body_counts : (n : ℕ) (head : PlainHead) (found : Checked (PlainStmts Name × Scope)) → Counts n found →
    CountsFunction n (found >>= λ body. Ok (record { name = head.name; names = body.1.names; arity = length head.parameters; body = body.0 }, body.1.statements))
body_counts n head (Ok x) h = h
body_counts n head (Err e) h = tt

function_counts : (heads : List PlainHead) (n : ℕ) (head : PlainHead) → CountsFunction n (function_by heads n head)
unfolding function_by
function_counts heads n head = body_counts n head _ (stmts_counts heads (record { names = head.parameters; statements = n }) head.body)

-- the statements so far, when a function was read
pub count-next : (heads : List PlainHead) (head : PlainHead) (count new : ℕ) (fs : List (PlainItem ℕ)) (f : PlainItem ℕ) → function_by heads count head ≡ Ok (written f, new) →
    count ≡ statements_of fs → count ≤ 4096 → (new ≡ statements_of (fs ++ f ∷ [])) × (new ≤ 4096)
count-next heads head count new fs f is so le =
    let h : CountsFunction count (Ok (written f, new)) = subst (CountsFunction count) is (function_counts heads count head) in
    let same = stmts_same _ f.body in (
      h.0 ∙ ap (λ n. count + n) same ∙ ap (λ n. n + stmts_count f.body) so ∙ sym (sum_by_push (λ (f : PlainItem ℕ). stmts_count f.body) fs f),
      h.1 le,
    )
