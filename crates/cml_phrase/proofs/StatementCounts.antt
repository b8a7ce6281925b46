-- Each statement of a program has its form.
use Rattle.std.proofs.Common.{◌≡◌, ℕ, suc, zero, ◌+◌, Bool, true, false, List, [], ◌∷◌, ◌++◌, length, map, Option}
use Rattle.std.proofs.Common.{Some, None, Ok, Err, refl, sym, ap, subst, ◌∙◌, arith, append_assoc, append-nil}
use Rattle.std.proofs.Common.{length-append}
use Rattle.std.specs.Prelude.{if◌then◌else◌, slice_get, IfSome}
use Rattle.std.proofs.lemmas.List.{map_push, length-map}
use Rattle.cml_text.specs.declared.sexpr.Span.{Span}
use Rattle.cml_text.specs.Forms.{PlainSexpr, plain_name, plain_int, plain_text, plain_list, PlainForms, no_forms, forms_and, span_of}
use Rattle.cml_check.specs.declared.statement.Scope.{Scope}
use Rattle.cml_check.specs.declared.word.Tested.{Tested}
use Rattle.cml_check.specs.declared.word.Word.{Word}
use Rattle.cml_check.specs.declared.word.Word.TheVariants as word
use Rattle.cml_check.specs.Faults.{PlainCheckFault}
use Rattle.cml_check.specs.Syntax.{Name, PlainExpr, PlainStmt, if_so, just_do, PlainStmts, stmts_and, PlainItem, written}
use Rattle.cml_check.specs.Checked.{Checked, ◌>>=◌}
use Rattle.cml_check.specs.Words.{word_from}
use Rattle.cml_check.specs.Names.{has_name, variable_in, free_name}
use Rattle.cml_check.specs.Heads.{PlainHead, parameters_in, head_by, head_in, added, may_be_added, heads_from, main_in}
use Rattle.cml_check.specs.Expressions.{expr_in}
use Rattle.cml_check.specs.Statements.{effect_in, source_in, tested_stmt, statement_counted, stmt_in, stmt_by, block_in, behind_do, stmts_in}
use Rattle.cml_check.specs.Shape.{function_by, functions_in, shape}
use Rattle.cml_check.specs.Sizes.{stmt_count, stmts_count}
use Rattle.cml_check.proofs.SizeLemmas.{stmts_same}
use Rattle.cml_check.proofs.WordLemmas.{tested_count}
use Rattle.cml_phrase.specs.Keywords.{keyword_for}
use Rattle.cml_phrase.specs.Statements.{statements_in, inner_statements, block_statements, all_statements, item_statements, found_statements, spans_of}

-- as many forms as statements
abbrev Spanned : List PlainSexpr → Checked (PlainStmts Name × Scope) → Type 0
Spanned l (Ok f) = length l ≡ stmts_count f.0
Spanned l (Err e) = Unit {0}

-- the same of one statement: the forms of those inside it, and its own besides
abbrev SpannedOne : List PlainSexpr → Checked (PlainStmt Name × Scope) → Type 0
SpannedOne l (Ok f) = length l + 1 ≡ stmt_count f.0
SpannedOne l (Err e) = Unit {0}

abbrev SpannedStmt : List PlainSexpr → Checked (PlainStmt Name × Scope) → Type 0
SpannedStmt l (Ok f) = length l ≡ stmt_count f.0
SpannedStmt l (Err e) = Unit {0}

own : (form : PlainSexpr) (l : List PlainSexpr) (found : Checked (PlainStmt Name × Scope)) → SpannedOne l found → SpannedStmt (form ∷ l) found
own form l (Ok f) h = omega (arith, h)
own form l (Err e) h = tt

past : {A : Type 0} (l : List PlainSexpr) (r : Checked A) (f : A → Checked (PlainStmt Name × Scope)) → ((x : A) → SpannedOne l (f x)) → SpannedOne l (r >>= f)
past l (Ok x) f h = h x
past l (Err e) f h = tt

if_second : (l m : List PlainSexpr) (p : PlainExpr Name) (x : PlainStmts Name × Scope) (b : Checked (PlainStmts Name × Scope)) → Spanned l (Ok x) → Spanned m b →
    SpannedOne (l ++ m) (b >>= λ y. Ok (if_so p x.0 y.0, y.1))
if_second l m p x (Ok y) h g = let n = length-append l m in omega (arith, h, g)
if_second l m p x (Err e) h g = tt

if_first : (l m : List PlainSexpr) (p : PlainExpr Name) (a : Checked (PlainStmts Name × Scope)) (b : Scope → Checked (PlainStmts Name × Scope)) → Spanned l a → ((s : Scope) → Spanned m (b s)) →
    SpannedOne (l ++ m) (a >>= λ x. b x.1 >>= λ y. Ok (if_so p x.0 y.0, y.1))
if_first l m p (Ok x) b h g = if_second l m p x (b x.1) h (g x.1)
if_first l m p (Err e) b h g = tt

tested_one : (l : List PlainSexpr) (test : Tested) (p : PlainExpr Name) (a : Checked (PlainStmts Name × Scope)) → Spanned l a → SpannedOne l (a >>= λ x. Ok (tested_stmt test p x.0, x.1))
tested_one l test p (Ok x) h = let one = tested_count test p x.0 in omega (arith, h, one)
tested_one l test p (Err e) h = tt

behind_last : (l m : List PlainSexpr) (s : PlainStmt Name × Scope) (rest : Checked (PlainStmts Name × Scope)) → length l ≡ stmt_count s.0 → Spanned m rest →
    Spanned (l ++ m) (rest >>= λ ss. Ok (stmts_and s.0 ss.0, ss.1))
behind_last l m s (Ok ss) h g = let n = length-append l m in omega (arith, h, g)
behind_last l m s (Err e) h g = tt

behind_first : (l m : List PlainSexpr) (first : Checked (PlainStmt Name × Scope)) (rest : Scope → Checked (PlainStmts Name × Scope)) → SpannedStmt l first → ((s : Scope) → Spanned m (rest s)) →
    Spanned (l ++ m) (first >>= λ s. rest s.1 >>= λ ss. Ok (stmts_and s.0 ss.0, ss.1))
behind_first l m (Ok s) rest h g = behind_last l m s (rest s.1) h (g s.1)
behind_first l m (Err e) rest h g = tt

behind_count : (l m : List PlainSexpr) (found : Checked Scope) (first : Scope → Checked (PlainStmt Name × Scope)) (rest : Scope → Checked (PlainStmts Name × Scope)) →
    ((s : Scope) → SpannedStmt l (first s)) → ((s : Scope) → Spanned m (rest s)) → Spanned (l ++ m) (found >>= λ at. first at >>= λ s. rest s.1 >>= λ ss. Ok (stmts_and s.0 ss.0, ss.1))
behind_count l m (Ok at) first rest h g = behind_first l m (first at) rest (h at) g
behind_count l m (Err e) first rest h g = tt

behind_word : (l : List PlainSexpr) (span : Span) (first : Option Word) (found : Checked (PlainStmts Name × Scope)) → Spanned l found → Spanned l (behind_do span first found)
behind_word l span (Some word.Do) found h = h
behind_word l span first found h = tt

-- an effect is one statement
done : (heads : List PlainHead) (scope : Scope) (span : Span) (first : Option Word) (forms : PlainForms) →
    SpannedOne [] (effect_in heads scope.names span first forms >>= λ e. Ok (just_do e, scope))
done heads scope span first forms = past [] (effect_in heads scope.names span first forms) _ (λ e. refl)

mutual
  unfolding stmt_in stmt_by block_in stmts_in

  stmt_spanned : (heads : List PlainHead) (scope : Scope) (form : PlainSexpr) → SpannedStmt (statements_in form) (stmt_in heads scope form)
  stmt_spanned heads scope (plain_name span name) = tt
  stmt_spanned heads scope (plain_int span z) = tt
  stmt_spanned heads scope (plain_text span bytes) = tt
  stmt_spanned heads scope (plain_list span no_forms) = tt
  stmt_spanned heads scope (plain_list span (forms_and first behind)) =
      own (plain_list span (forms_and first behind)) (inner_statements (keyword_for (word_from first)) behind)
      (stmt_by heads scope span (word_from first) behind) (by_spanned heads scope span (word_from first) behind)

  by_spanned : (heads : List PlainHead) (scope : Scope) (span : Span) (first : Option Word) (forms : PlainForms)
      → SpannedOne (inner_statements (keyword_for first) forms) (stmt_by heads scope span first forms)
  by_spanned heads scope span (Some word.Let) (forms_and x (forms_and r no_forms)) =
      past [] (free_name x) _ (λ name. past [] (source_in heads scope.names r) _ (λ source. refl))
  by_spanned heads scope span (Some word.Set) (forms_and x (forms_and p no_forms)) =
      past [] (variable_in scope.names x) _ (λ name. past [] (expr_in heads scope.names p) _ (λ e. refl))
  by_spanned heads scope span (Some word.If) (forms_and p (forms_and x (forms_and y no_forms))) =
      past (block_statements x ++ block_statements y) (expr_in heads scope.names p) _
      (λ e. if_first (block_statements x) (block_statements y) e (block_in heads scope x) (λ s. block_in heads s y)
      (block_spanned heads scope x) (λ s. block_spanned heads s y))
  by_spanned heads scope span (Some (word.Tested test)) (forms_and p forms) =
      past (all_statements forms) (expr_in heads scope.names p) _ (λ e. tested_one (all_statements forms) test e (stmts_in heads scope forms) (stmts_spanned heads scope forms))
  by_spanned heads scope span (Some word.Return) (forms_and p no_forms) = past [] (expr_in heads scope.names p) _ (λ e. refl)
  by_spanned heads scope span first forms = done heads scope span first forms

  block_spanned : (heads : List PlainHead) (scope : Scope) (form : PlainSexpr) → Spanned (block_statements form) (block_in heads scope form)
  block_spanned heads scope (plain_name span name) = tt
  block_spanned heads scope (plain_int span z) = tt
  block_spanned heads scope (plain_text span bytes) = tt
  block_spanned heads scope (plain_list span no_forms) = tt
  block_spanned heads scope (plain_list span (forms_and first behind)) =
      behind_word (all_statements behind) span (word_from first) (stmts_in heads scope behind) (stmts_spanned heads scope behind)

  stmts_spanned : (heads : List PlainHead) (scope : Scope) (forms : PlainForms) → Spanned (all_statements forms) (stmts_in heads scope forms)
  stmts_spanned heads scope no_forms = refl
  stmts_spanned heads scope (forms_and form forms) =
      behind_count (statements_in form) (all_statements forms) (statement_counted scope (span_of form)) (λ s. stmt_in heads s form) (λ s. stmts_in heads s forms)
      (λ s. stmt_spanned heads s form) (λ s. stmts_spanned heads s forms)

-- where both parts are found, the first is
bind_ok : {A B : Type 0} (r : Checked A) (f : A → Checked B) (y : B) → (r >>= f) ≡ Ok y → (x : A) × (r ≡ Ok x) × (f x ≡ Ok y)
bind_ok (Ok x) f y e = (x, refl, e)
bind_ok (Err z) f y e = cc

-- what was found, or else d
abbrev found_or : {A : Type 0} → A → Checked A → A
found_or d (Ok x) = x
found_or d (Err e) = d

abbrev head_count : PlainHead → ℕ
head_count head = length (all_statements head.body)

abbrev item_count : PlainSexpr → ℕ
item_count item = length (item_statements item)

abbrev body_count : PlainItem Name → ℕ
body_count f = stmts_count f.body

abbrev behind_statements : PlainForms → List PlainSexpr
behind_statements (forms_and name (forms_and parameters body)) = all_statements body
behind_statements forms = []

-- the head of an item has the item's statements
head_statements : (span : Span) (first : Option Word) (behind : PlainForms) (head : PlainHead) → head_by span first behind ≡ Ok head → behind_statements behind ≡ all_statements head.body
unfolding head_by
head_statements span None behind head e = cc
head_statements span (Some word.Do) behind head e = cc
head_statements span (Some word.Let) behind head e = cc
head_statements span (Some word.Set) behind head e = cc
head_statements span (Some word.If) behind head e = cc
head_statements span (Some (word.Tested test)) behind head e = cc
head_statements span (Some word.Return) behind head e = cc
head_statements span (Some word.Call) behind head e = cc
head_statements span (Some word.Spawn) behind head e = cc
head_statements span (Some word.Choose) behind head e = cc
head_statements span (Some word.Wrap) behind head e = cc
head_statements span (Some word.Guard) behind head e = cc
head_statements span (Some word.WithNack) behind head e = cc
head_statements span (Some word.MVar) behind head e = cc
head_statements span (Some (word.Constant c)) behind head e = cc
head_statements span (Some (word.Unary o)) behind head e = cc
head_statements span (Some (word.Binary o)) behind head e = cc
head_statements span (Some (word.Act a)) behind head e = cc
head_statements span (Some (word.ActOnOne a)) behind head e = cc
head_statements span (Some (word.ActOnTwo a)) behind head e = cc
head_statements span (Some word.Fn) no_forms head e = cc
head_statements span (Some word.Fn) (forms_and form no_forms) head e = cc
head_statements span (Some word.Fn) (forms_and form (forms_and list body)) head e =
    let a = bind_ok (free_name form) _ head e in
    let b = bind_ok (parameters_in list) _ head a.2 in
    let same : body ≡ head.body = cc (b.2) in
    ap all_statements same

item_is : (item : PlainSexpr) (head : PlainHead) → head_in item ≡ Ok head → item_count item ≡ head_count head
unfolding head_in
item_is (plain_name span bytes) head e = cc
item_is (plain_int span value) head e = cc
item_is (plain_text span bytes) head e = cc
item_is (plain_list span no_forms) head e = cc
item_is (plain_list span (forms_and first no_forms)) head e = ap length (head_statements span (word_from first) no_forms head e)
item_is (plain_list span (forms_and first (forms_and name no_forms))) head e = ap length (head_statements span (word_from first) (forms_and name no_forms) head e)
item_is (plain_list span (forms_and first (forms_and name (forms_and list body)))) head e = ap length (head_statements span (word_from first) (forms_and name (forms_and list body)) head e)

added_by : (test : Bool) (err : PlainCheckFault) (found heads : List PlainHead) (head : PlainHead) → (if test then Err err else Ok (found ++ head ∷ [])) ≡ Ok heads → heads ≡ found ++ head ∷ []
added_by true err found heads head e = cc
added_by false err found heads head e = cc

heads_count : (items : List PlainSexpr) (found heads : List PlainHead) → heads_from found items ≡ Ok heads → map head_count heads ≡ map head_count found ++ map item_count items
unfolding heads_from
heads_count [] found heads e =
    let same : heads ≡ found = cc in
    ap (map head_count) same ∙ sym (append-nil (map head_count found))
heads_count (item ∷ items) found heads e =
    let a = bind_ok (may_be_added found item) _ heads e in
    let b = bind_ok (head_in item) _ heads a.2 in
    let c = bind_ok (added found b.0) _ heads b.2 in
    let is = added_by (has_name (map (λ head. head.name) found) b.0.name) _ found c.0 b.0 c.1 in
    heads_count items c.0 heads c.2
    ∙ ap (λ hs. map head_count hs ++ map item_count items) is
    ∙ ap (λ ns. ns ++ map item_count items) (map_push head_count found b.0)
    ∙ append_assoc (map head_count found) (head_count b.0 ∷ []) (map item_count items)
    ∙ ap (λ n. map head_count found ++ n ∷ map item_count items) (sym (item_is item b.0 b.1))

function_is : (heads : List PlainHead) (n : ℕ) (head : PlainHead) (f : PlainItem Name × ℕ) → function_by heads n head ≡ Ok f → head_count head ≡ body_count f.0
unfolding function_by
function_is heads n head f e =
    let scope : Scope = record { names = head.parameters; statements = n } in
    let a = bind_ok (stmts_in heads scope head.body) _ f e in
    let h : Spanned (all_statements head.body) (Ok a.0) = subst (Spanned (all_statements head.body)) a.1 (stmts_spanned heads scope head.body) in
    let same : a.0.0 ≡ f.0.body = ap (λ (r : Checked (PlainItem Name × ℕ)). (found_or f r).0.body) a.2 in
    h ∙ ap stmts_count same

functions_count : (heads : List PlainHead) (left : List PlainHead) (n : ℕ) (fs : List (PlainItem Name)) → functions_in heads n left ≡ Ok fs → map head_count left ≡ map body_count fs
unfolding functions_in
functions_count heads [] n fs e =
    let same : [] ≡ fs = cc in
    ap (map body_count) same
functions_count heads (head ∷ left) n fs e =
    let a = bind_ok (function_by heads n head) _ fs e in
    let b = bind_ok (functions_in heads a.0.1 left) _ fs a.2 in
    let same : a.0.0 ∷ b.0 ≡ fs = cc (b.2) in
    ap (λ m. m ∷ map head_count left) (function_is heads n head a.0 a.1)
    ∙ ap (λ ms. body_count a.0.0 ∷ ms) (functions_count heads left a.0.1 b.0 b.1)
    ∙ ap (map body_count) same

get_both : (items : List PlainSexpr) (program : List (PlainItem ℕ)) (n : ℕ) → map item_count items ≡ map body_count (map written program) →
    IfSome (slice_get program n) (λ f. length (found_statements (slice_get items n)) ≡ stmts_count f.body)
get_both items [] n e = tt
get_both [] (f ∷ fs) n e = cc
get_both (item ∷ items) (f ∷ fs) zero e =
    let same : item_count item ≡ body_count (written f) = cc in
    same ∙ stmts_same _ f.body
get_both (item ∷ items) (f ∷ fs) (suc n) e = get_both items fs n (cc)

-- each statement of a function of a program has its form
pub statements_each : (forms : List PlainSexpr) (program : List (PlainItem ℕ)) (n : ℕ) → shape forms ≡ Ok (map written program) →
    IfSome (slice_get program n) (λ f. length (found_statements (slice_get forms n)) ≡ stmts_count f.body)
unfolding shape
statements_each forms program n e =
    let a = bind_ok (heads_from [] forms) _ (map written program) e in
    let b = bind_ok (main_in a.0) _ (map written program) a.2 in
    get_both forms program n (sym (heads_count forms [] a.0 a.1) ∙ functions_count a.0 a.0 0 (map written program) b.2)

spans_are : (item : Option PlainSexpr) → spans_of item ≡ map span_of (found_statements item)
spans_are (Some item) = refl
spans_are None = refl

-- so has it in the list of spans
pub each_span : (spans : List Span) (forms : List PlainSexpr) (program : List (PlainItem ℕ)) (n : ℕ) → spans ≡ spans_of (slice_get forms n) → shape forms ≡ Ok (map written program) →
    IfSome (slice_get program n) (λ f. length spans ≡ stmts_count f.body)
each_span spans forms program n is e =
    let count : length spans ≡ length (found_statements (slice_get forms n)) = ap length (is ∙ spans_are (slice_get forms n)) ∙ length-map (found_statements (slice_get forms n)) span_of in
    subst (λ k. IfSome (slice_get program n) (λ f. k ≡ stmts_count f.body)) (sym count) (statements_each forms program n e)
