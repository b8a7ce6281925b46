-- What was checked stays right when more names are declared.
use Rattle.std.proofs.Common.{◌≡◌, ℕ, zero, suc, ◌+◌, ◌<◌, ◌≤◌, Bool, true, false, ◌&&◌, List, [], ◌∷◌, ◌++◌}
use Rattle.std.proofs.Common.{length, get_or, map, drop, cond, Ok, Err, append_assoc, append-nil, refl, sym, ap}
use Rattle.std.proofs.Common.{◌∙◌, arith, nat_lt}
use Rattle.std.proofs.Math.ListN.{drop_of_length-le}
use Rattle.cml_text.specs.Forms.{PlainSexpr, PlainForms, plain_forms, span_of}
use Rattle.cml_check.specs.declared.fault.CheckFault.{CheckFault}
use Rattle.cml_check.specs.declared.statement.Scope.{Scope}
use Rattle.cml_check.specs.Checked.{Checked, ◌>>=◌, Fails}
use Rattle.cml_check.specs.Names.{has_name, with_name}
use Rattle.cml_check.specs.Statements.{statement_counted, stmt_in, stmts_in}
use Rattle.cml_check.proofs.CheckedLemmas.{after, fails-as, drop-at}
use Rattle.std.proofs.lemmas.Bool.{ltb-true, lt-ltb, and_parts, and_from}
use Rattle.std.proofs.lemmas.List.{length-append}
use Rattle.cml_check.specs.Syntax.{Name, PlainExpr, constant, number, text, variable, unary, binary, choose, wrap, guard, with_nack, PlainExprs, no_exprs, exprs_and, expr_map, exprs_map, name_at}
use Rattle.cml_check.specs.Syntax.{PlainEffect, act, act_on_one, act_on_two, call, spawn, PlainSource, value, effect, effect_map, source_map}
use Rattle.cml_check.specs.Syntax.{PlainStmt, let_be, set_to, just_do, if_so, while_so, return_with, PlainStmts, no_stmts, stmts_and, stmts, stmt_map, stmts_map}
use Rattle.cml_check.specs.Heads.{PlainHead, takes}
use Rattle.cml_check.specs.InOrder.{expr_fits, exprs_fit, effect_fits, source_fits, stmt_fits, stmts_fit, exprs_count}
use Rattle.cml_check.specs.StatementParts.{Grows}

-- f and g name the first slots alike
abbrev Alike : (ℕ → Name) → (ℕ → Name) → ℕ → Type 0
Alike f g slots = (v : ℕ) → v < slots → f v ≡ g v

mutual
  expr_alike : (f g : ℕ → Name) (ar : List ℕ) (n : ℕ) → Alike f g n → (e : PlainExpr ℕ) → expr_fits ar n e ≡ true → expr_map f e ≡ expr_map g e
  expr_alike f g ar n h (constant c) p = refl
  expr_alike f g ar n h (number z) p = refl
  expr_alike f g ar n h (text bytes) p = refl
  expr_alike f g ar n h (variable v) p = ap variable (h v (ltb-true v n p))
  expr_alike f g ar n h (unary op e) p = ap (unary op) (expr_alike f g ar n h e p)
  expr_alike f g ar n h (binary op d e) p =
      let q = and_parts (expr_fits ar n d) (expr_fits ar n e) p in
      ap (λ x. binary op x (expr_map f e)) (expr_alike f g ar n h d q.0) ∙ ap (binary op (expr_map g d)) (expr_alike f g ar n h e q.1)
  expr_alike f g ar n h (choose es) p = ap choose (exprs_alike f g ar n h es p)
  expr_alike f g ar n h (wrap e k es) p =
      let q = and_parts (expr_fits ar n e && exprs_fit ar n es) (takes ar k (exprs_count es + 1)) p in
      let r = and_parts (expr_fits ar n e) (exprs_fit ar n es) q.0 in
      ap (λ x. wrap x k (exprs_map f es)) (expr_alike f g ar n h e r.0) ∙ ap (wrap (expr_map g e) k) (exprs_alike f g ar n h es r.1)
  expr_alike f g ar n h (guard k es) p = ap (guard k) (exprs_alike f g ar n h es (and_parts (exprs_fit ar n es) (takes ar k (exprs_count es)) p).0)
  expr_alike f g ar n h (with_nack k es) p = ap (with_nack k) (exprs_alike f g ar n h es (and_parts (exprs_fit ar n es) (takes ar k (exprs_count es + 1)) p).0)

  exprs_alike : (f g : ℕ → Name) (ar : List ℕ) (n : ℕ) → Alike f g n → (es : PlainExprs ℕ) → exprs_fit ar n es ≡ true → exprs_map f es ≡ exprs_map g es
  exprs_alike f g ar n h no_exprs p = refl
  exprs_alike f g ar n h (exprs_and e es) p =
      let q = and_parts (expr_fits ar n e) (exprs_fit ar n es) p in
      ap (λ x. exprs_and x (exprs_map f es)) (expr_alike f g ar n h e q.0) ∙ ap (exprs_and (expr_map g e)) (exprs_alike f g ar n h es q.1)

effect_alike : (f g : ℕ → Name) (ar : List ℕ) (n : ℕ) → Alike f g n → (e : PlainEffect ℕ) → effect_fits ar n e ≡ true → effect_map f e ≡ effect_map g e
effect_alike f g ar n h (act a) p = refl
effect_alike f g ar n h (act_on_one a e) p = ap (act_on_one a) (expr_alike f g ar n h e p)
effect_alike f g ar n h (act_on_two a d e) p =
    let q = and_parts (expr_fits ar n d) (expr_fits ar n e) p in
    ap (λ x. act_on_two a x (expr_map f e)) (expr_alike f g ar n h d q.0) ∙ ap (act_on_two a (expr_map g d)) (expr_alike f g ar n h e q.1)
effect_alike f g ar n h (call k es) p = ap (call k) (exprs_alike f g ar n h es (and_parts (exprs_fit ar n es) (takes ar k (exprs_count es)) p).0)
effect_alike f g ar n h (spawn k es) p = ap (spawn k) (exprs_alike f g ar n h es (and_parts (exprs_fit ar n es) (takes ar k (exprs_count es)) p).0)

source_alike : (f g : ℕ → Name) (ar : List ℕ) (n : ℕ) → Alike f g n → (s : PlainSource ℕ) → source_fits ar n s ≡ true → source_map f s ≡ source_map g s
source_alike f g ar n h (value e) p = ap value (expr_alike f g ar n h e p)
source_alike f g ar n h (effect e) p = ap effect (effect_alike f g ar n h e p)

mutual
  stmt_alike : (f g : ℕ → Name) (ar : List ℕ) (n : ℕ) → Alike f g n → (s : PlainStmt ℕ) → stmt_fits ar n s ≡ true → stmt_map f s ≡ stmt_map g s
  stmt_alike f g ar n h (let_be v r) p =
      let q = and_parts (nat_lt v n) (source_fits ar n r) p in
      ap (λ x. let_be x (source_map f r)) (h v (ltb-true v n q.0)) ∙ ap (let_be (g v)) (source_alike f g ar n h r q.1)
  stmt_alike f g ar n h (set_to v e) p =
      let q = and_parts (nat_lt v n) (expr_fits ar n e) p in
      ap (λ x. set_to x (expr_map f e)) (h v (ltb-true v n q.0)) ∙ ap (set_to (g v)) (expr_alike f g ar n h e q.1)
  stmt_alike f g ar n h (just_do e) p = ap just_do (effect_alike f g ar n h e p)
  stmt_alike f g ar n h (if_so e a b) p =
      let q = and_parts (expr_fits ar n e && stmts_fit ar n a) (stmts_fit ar n b) p in
      let r = and_parts (expr_fits ar n e) (stmts_fit ar n a) q.0 in
      ap (λ x. if_so x (stmts_map f a) (stmts_map f b)) (expr_alike f g ar n h e r.0)
      ∙ ap (λ x. if_so (expr_map g e) x (stmts_map f b)) (stmts_alike f g ar n h a r.1)
      ∙ ap (if_so (expr_map g e) (stmts_map g a)) (stmts_alike f g ar n h b q.1)
  stmt_alike f g ar n h (while_so e a) p =
      let q = and_parts (expr_fits ar n e) (stmts_fit ar n a) p in
      ap (λ x. while_so x (stmts_map f a)) (expr_alike f g ar n h e q.0) ∙ ap (while_so (expr_map g e)) (stmts_alike f g ar n h a q.1)
  stmt_alike f g ar n h (return_with e) p = ap return_with (expr_alike f g ar n h e p)

  stmts_alike : (f g : ℕ → Name) (ar : List ℕ) (n : ℕ) → Alike f g n → (ss : PlainStmts ℕ) → stmts_fit ar n ss ≡ true → stmts_map f ss ≡ stmts_map g ss
  stmts_alike f g ar n h no_stmts p = refl
  stmts_alike f g ar n h (stmts_and s ss) p =
      let q = and_parts (stmt_fits ar n s) (stmts_fit ar n ss) p in
      ap (λ x. stmts_and x (stmts_map f ss)) (stmt_alike f g ar n h s q.0) ∙ ap (stmts_and (stmt_map g s)) (stmts_alike f g ar n h ss q.1)

below : (m n v : ℕ) → m ≤ n → nat_lt v m ≡ true → nat_lt v n ≡ true
below m n v le h = let lt : v < m = ltb-true v m h in lt-ltb v n (omega arith)

mutual
  expr_wider : (ar : List ℕ) (m n : ℕ) → m ≤ n → (e : PlainExpr ℕ) → expr_fits ar m e ≡ true → expr_fits ar n e ≡ true
  expr_wider ar m n le (constant c) p = refl
  expr_wider ar m n le (number z) p = refl
  expr_wider ar m n le (text bytes) p = refl
  expr_wider ar m n le (variable v) p = below m n v le p
  expr_wider ar m n le (unary op e) p = expr_wider ar m n le e p
  expr_wider ar m n le (binary op d e) p =
      let q = and_parts (expr_fits ar m d) (expr_fits ar m e) p in
      and_from (expr_fits ar n d) (expr_fits ar n e) (expr_wider ar m n le d q.0) (expr_wider ar m n le e q.1)
  expr_wider ar m n le (choose es) p = exprs_wider ar m n le es p
  expr_wider ar m n le (wrap e k es) p =
      let q = and_parts (expr_fits ar m e && exprs_fit ar m es) (takes ar k (exprs_count es + 1)) p in
      let r = and_parts (expr_fits ar m e) (exprs_fit ar m es) q.0 in
      and_from (expr_fits ar n e && exprs_fit ar n es) (takes ar k (exprs_count es + 1))
      (and_from (expr_fits ar n e) (exprs_fit ar n es) (expr_wider ar m n le e r.0) (exprs_wider ar m n le es r.1)) q.1
  expr_wider ar m n le (guard k es) p =
      let r = and_parts (exprs_fit ar m es) (takes ar k (exprs_count es)) p in
      and_from (exprs_fit ar n es) (takes ar k (exprs_count es)) (exprs_wider ar m n le es r.0) r.1
  expr_wider ar m n le (with_nack k es) p =
      let r = and_parts (exprs_fit ar m es) (takes ar k (exprs_count es + 1)) p in
      and_from (exprs_fit ar n es) (takes ar k (exprs_count es + 1)) (exprs_wider ar m n le es r.0) r.1

  exprs_wider : (ar : List ℕ) (m n : ℕ) → m ≤ n → (es : PlainExprs ℕ) → exprs_fit ar m es ≡ true → exprs_fit ar n es ≡ true
  exprs_wider ar m n le no_exprs p = refl
  exprs_wider ar m n le (exprs_and e es) p =
      let q = and_parts (expr_fits ar m e) (exprs_fit ar m es) p in
      and_from (expr_fits ar n e) (exprs_fit ar n es) (expr_wider ar m n le e q.0) (exprs_wider ar m n le es q.1)

effect_wider : (ar : List ℕ) (m n : ℕ) → m ≤ n → (e : PlainEffect ℕ) → effect_fits ar m e ≡ true → effect_fits ar n e ≡ true
effect_wider ar m n le (act a) p = refl
effect_wider ar m n le (act_on_one a e) p = expr_wider ar m n le e p
effect_wider ar m n le (act_on_two a d e) p =
    let q = and_parts (expr_fits ar m d) (expr_fits ar m e) p in
    and_from (expr_fits ar n d) (expr_fits ar n e) (expr_wider ar m n le d q.0) (expr_wider ar m n le e q.1)
effect_wider ar m n le (call k es) p =
    let r = and_parts (exprs_fit ar m es) (takes ar k (exprs_count es)) p in
    and_from (exprs_fit ar n es) (takes ar k (exprs_count es)) (exprs_wider ar m n le es r.0) r.1
effect_wider ar m n le (spawn k es) p =
    let r = and_parts (exprs_fit ar m es) (takes ar k (exprs_count es)) p in
    and_from (exprs_fit ar n es) (takes ar k (exprs_count es)) (exprs_wider ar m n le es r.0) r.1

source_wider : (ar : List ℕ) (m n : ℕ) → m ≤ n → (s : PlainSource ℕ) → source_fits ar m s ≡ true → source_fits ar n s ≡ true
source_wider ar m n le (value e) p = expr_wider ar m n le e p
source_wider ar m n le (effect e) p = effect_wider ar m n le e p

mutual
  stmt_wider : (ar : List ℕ) (m n : ℕ) → m ≤ n → (s : PlainStmt ℕ) → stmt_fits ar m s ≡ true → stmt_fits ar n s ≡ true
  stmt_wider ar m n le (let_be v r) p =
      let q = and_parts (nat_lt v m) (source_fits ar m r) p in
      and_from (nat_lt v n) (source_fits ar n r) (below m n v le q.0) (source_wider ar m n le r q.1)
  stmt_wider ar m n le (set_to v e) p =
      let q = and_parts (nat_lt v m) (expr_fits ar m e) p in
      and_from (nat_lt v n) (expr_fits ar n e) (below m n v le q.0) (expr_wider ar m n le e q.1)
  stmt_wider ar m n le (just_do e) p = effect_wider ar m n le e p
  stmt_wider ar m n le (if_so e a b) p =
      let q = and_parts (expr_fits ar m e && stmts_fit ar m a) (stmts_fit ar m b) p in
      let r = and_parts (expr_fits ar m e) (stmts_fit ar m a) q.0 in
      and_from (expr_fits ar n e && stmts_fit ar n a) (stmts_fit ar n b)
      (and_from (expr_fits ar n e) (stmts_fit ar n a) (expr_wider ar m n le e r.0) (stmts_wider ar m n le a r.1)) (stmts_wider ar m n le b q.1)
  stmt_wider ar m n le (while_so e a) p =
      let q = and_parts (expr_fits ar m e) (stmts_fit ar m a) p in
      and_from (expr_fits ar n e) (stmts_fit ar n a) (expr_wider ar m n le e q.0) (stmts_wider ar m n le a q.1)
  stmt_wider ar m n le (return_with e) p = expr_wider ar m n le e p

  stmts_wider : (ar : List ℕ) (m n : ℕ) → m ≤ n → (ss : PlainStmts ℕ) → stmts_fit ar m ss ≡ true → stmts_fit ar n ss ≡ true
  stmts_wider ar m n le no_stmts p = refl
  stmts_wider ar m n le (stmts_and s ss) p =
      let q = and_parts (stmt_fits ar m s) (stmts_fit ar m ss) p in
      and_from (stmt_fits ar n s) (stmts_fit ar n ss) (stmt_wider ar m n le s q.0) (stmts_wider ar m n le ss q.1)

same_slot : (old more : List Name) (v : ℕ) → v < length old → name_at old v ≡ name_at (old ++ more) v
same_slot [] more v lt = absurd (omega arith)
same_slot (n ∷ old) more zero lt = refl
same_slot (n ∷ old) more (suc v) lt = same_slot old more v (omega arith)

grown_alike : (old new : List Name) → Grows old new → Alike (name_at old) (name_at new) (length old)
grown_alike old new g v lt = same_slot old g.0 v lt ∙ ap (λ names. name_at names v) (sym g.1)

grown_longer : (old new : List Name) → Grows old new → length old ≤ length new
grown_longer old new g = rw (g.1, length-append) (omega arith)

-- in terms of what grows
pub expr-grown : (ar : List ℕ) (old new : List Name) → Grows old new → (e : PlainExpr ℕ) → expr_fits ar (length old) e ≡ true →
    (expr_map (name_at old) e ≡ expr_map (name_at new) e) × (expr_fits ar (length new) e ≡ true)
expr-grown ar old new g e p = (expr_alike _ _ ar _ (grown_alike old new g) e p, expr_wider ar _ _ (grown_longer old new g) e p)

pub source-grown : (ar : List ℕ) (old new : List Name) → Grows old new → (s : PlainSource ℕ) → source_fits ar (length old) s ≡ true →
    (source_map (name_at old) s ≡ source_map (name_at new) s) × (source_fits ar (length new) s ≡ true)
source-grown ar old new g s p = (source_alike _ _ ar _ (grown_alike old new g) s p, source_wider ar _ _ (grown_longer old new g) s p)

pub stmts-grown : (ar : List ℕ) (old new : List Name) → Grows old new → (ss : PlainStmts ℕ) → stmts_fit ar (length old) ss ≡ true →
    (stmts_map (name_at old) ss ≡ stmts_map (name_at new) ss) × (stmts_fit ar (length new) ss ≡ true)
stmts-grown ar old new g ss p = (stmts_alike _ _ ar _ (grown_alike old new g) ss p, stmts_wider ar _ _ (grown_longer old new g) ss p)

pub grows_same : (names : List Name) → Grows names names
grows_same names = ([], sym (append-nil names))

pub grows-on : (a b c : List Name) → Grows a b → Grows b c → Grows a c
grows-on a b c g h = (g.0 ++ h.0, h.1 ∙ ap (λ names. names ++ h.0) g.1 ∙ append_assoc a g.0 h.0)

with_name_grows : (names : List Name) (name : Name) (test : Bool) → Grows names (cond test names (names ++ name ∷ []))
with_name_grows names name true = grows_same names
with_name_grows names name false = (name ∷ [], refl)

pub grows-with_name : (names : List Name) (name : Name) → Grows names (with_name names name)
grows-with_name names name = with_name_grows names name (has_name names name)

-- ---- the loop over statements

abbrev pub onto : {V : Type 0} → List (PlainStmt V) → PlainStmts V → PlainStmts V
onto [] rest = rest
onto (s ∷ ss) rest = stmts_and s (onto ss rest)

abbrev pub front : List (PlainStmt Name) → Checked (PlainStmts Name × Scope) → Checked (PlainStmts Name × Scope)
front ss found = found >>= λ rest. Ok (onto ss rest.0, rest.1)

onto-push : {V : Type 0} (ss : List (PlainStmt V)) (s : PlainStmt V) (rest : PlainStmts V) → onto ss (stmts_and s rest) ≡ onto (ss ++ s ∷ []) rest
onto-push [] s rest = refl
onto-push (d ∷ ss) s rest = ap (stmts_and d) (onto-push ss s rest)

onto-nil : {V : Type 0} (ss : List (PlainStmt V)) → onto ss no_stmts ≡ stmts ss
onto-nil [] = refl
onto-nil (s ∷ ss) = ap (stmts_and s) (onto-nil ss)

abbrev behind : PlainStmt Name → PlainStmts Name × Scope → Checked (PlainStmts Name × Scope)
behind s rest = Ok (stmts_and s rest.0, rest.1)

front-push : (ss : List (PlainStmt Name)) (s : PlainStmt Name) (found : Checked (PlainStmts Name × Scope)) → front ss (found >>= behind s) ≡ front (ss ++ s ∷ []) found
front-push ss s (Ok rest) = ap (λ x. Ok (x, rest.1)) (onto-push ss s rest.0)
front-push ss s (Err f) = refl

pub stmts-map : {V W : Type 0} (f : V → W) (ss : List (PlainStmt V)) → stmts_map f (stmts ss) ≡ stmts (map (stmt_map f) ss)
stmts-map f [] = refl
stmts-map f (s ∷ ss) = ap (stmts_and (stmt_map f s)) (stmts-map f ss)

-- all statements so far, under more names
pub items-grown : (ar : List ℕ) (old new : List Name) → Grows old new → (ss : List (PlainStmt ℕ)) → stmts_fit ar (length old) (stmts ss) ≡ true →
    (map (stmt_map (name_at old)) ss ≡ map (stmt_map (name_at new)) ss) × (stmts_fit ar (length new) (stmts ss) ≡ true)
items-grown ar old new g [] p = (refl, refl)
items-grown ar old new g (s ∷ ss) p =
    let q = and_parts (stmt_fits ar (length old) s) (stmts_fit ar (length old) (stmts ss)) p in
    let rest = items-grown ar old new g ss q.1 in (
      ap (λ x. x ∷ map (stmt_map (name_at old)) ss) (stmt_alike _ _ ar _ (grown_alike old new g) s q.0) ∙ ap (λ xs. stmt_map (name_at new) s ∷ xs) rest.0,
      and_from (stmt_fits ar (length new) s) (stmts_fit ar (length new) (stmts ss)) (stmt_wider ar _ _ (grown_longer old new g) s q.0) rest.1,
    )

pub stmts-fit_push : (ar : List ℕ) (slots : ℕ) (ss : List (PlainStmt ℕ)) (s : PlainStmt ℕ) → stmts_fit ar slots (stmts ss) ≡ true → stmt_fits ar slots s ≡ true →
    stmts_fit ar slots (stmts (ss ++ s ∷ [])) ≡ true
stmts-fit_push ar slots [] s h g = and_from (stmt_fits ar slots s) true g refl
stmts-fit_push ar slots (d ∷ ss) s h g =
    let p = and_parts (stmt_fits ar slots d) (stmts_fit ar slots (stmts ss)) h in
    and_from (stmt_fits ar slots d) _ p.0 (stmts-fit_push ar slots ss s p.1 g)

abbrev walk : List PlainHead → PlainForms → PlainStmt Name × Scope → Checked (PlainStmts Name × Scope)
walk heads forms s = stmts_in heads s.1 forms >>= behind s.0

step : (heads : List PlainHead) (scope : Scope) (forms : List PlainSexpr) (i : ℕ) (form : PlainSexpr) → i < length forms → form ≡ get_or forms i form →
    stmts_in heads scope (plain_forms (drop i forms)) ≡ (statement_counted scope (span_of form) >>= λ at. stmt_in heads at form >>= walk heads (plain_forms (drop (i + 1) forms)))
unfolding stmts_in
step heads scope forms i form lt is = ap (λ fs. stmts_in heads scope (plain_forms fs)) (drop-at forms i form lt is)

pub count-fails : (err : CheckFault) (heads : List PlainHead) (scope : Scope) (forms : List PlainSexpr) (i : ℕ)
    (form : PlainSexpr) (ss : List (PlainStmt Name)) (all : Checked (PlainStmts Name × Scope)) →
    i < length forms → form ≡ get_or forms i form → front ss (stmts_in heads scope (plain_forms (drop i forms))) ≡ all → Fails err (statement_counted scope (span_of form)) → Fails err all
count-fails err heads scope forms i form ss all lt is inv h =
    fails-as err (statement_counted scope (span_of form)) _ all
    (sym (after (statement_counted scope (span_of form)) (λ at. stmt_in heads at form >>= walk heads (plain_forms (drop (i + 1) forms))) (λ rest. Ok (onto ss rest.0, rest.1)))
    ∙ ap (front ss) (sym (step heads scope forms i form lt is)) ∙ inv) h

-- the statement was counted
stepped : (heads : List PlainHead) (scope at : Scope) (forms : List PlainSexpr) (i : ℕ) (form : PlainSexpr) (ss : List (PlainStmt Name)) (all : Checked (PlainStmts Name × Scope)) →
    i < length forms → form ≡ get_or forms i form → front ss (stmts_in heads scope (plain_forms (drop i forms))) ≡ all → statement_counted scope (span_of form) ≡ Ok at →
    front ss (stmt_in heads at form >>= walk heads (plain_forms (drop (i + 1) forms))) ≡ all
stepped heads scope at forms i form ss all lt is inv h =
    ap (λ r. front ss (r >>= λ at. stmt_in heads at form >>= walk heads (plain_forms (drop (i + 1) forms)))) (sym h)
    ∙ ap (front ss) (sym (step heads scope forms i form lt is)) ∙ inv

pub stmt-fails : (err : CheckFault) (heads : List PlainHead) (scope at : Scope) (forms : List PlainSexpr) (i : ℕ)
    (form : PlainSexpr) (ss : List (PlainStmt Name)) (all : Checked (PlainStmts Name × Scope)) →
    i < length forms → form ≡ get_or forms i form → front ss (stmts_in heads scope (plain_forms (drop i forms))) ≡ all → statement_counted scope (span_of form) ≡ Ok at →
    Fails err (stmt_in heads at form) → Fails err all
stmt-fails err heads scope at forms i form ss all lt is inv h f =
    fails-as err (stmt_in heads at form) _ all
    (sym (after (stmt_in heads at form) (walk heads (plain_forms (drop (i + 1) forms))) (λ rest. Ok (onto ss rest.0, rest.1)))
    ∙ stepped heads scope at forms i form ss all lt is inv h) f

pub stmt-next : (heads : List PlainHead) (scope at new : Scope) (forms : List PlainSexpr) (i : ℕ) (form : PlainSexpr)
    (ss : List (PlainStmt Name)) (s : PlainStmt Name) (all : Checked (PlainStmts Name × Scope)) →
    i < length forms → form ≡ get_or forms i form → front ss (stmts_in heads scope (plain_forms (drop i forms))) ≡ all → statement_counted scope (span_of form) ≡ Ok at →
    stmt_in heads at form ≡ Ok (s, new) → front (ss ++ s ∷ []) (stmts_in heads new (plain_forms (drop (i + 1) forms))) ≡ all
stmt-next heads scope at new forms i form ss s all lt is inv h f =
    sym (front-push ss s (stmts_in heads new (plain_forms (drop (i + 1) forms))))
    ∙ ap (λ r. front ss (r >>= walk heads (plain_forms (drop (i + 1) forms)))) (sym f)
    ∙ stepped heads scope at forms i form ss all lt is inv h

pub stmt-end : (heads : List PlainHead) (scope : Scope) (forms : List PlainSexpr) (i : ℕ) (ss : List (PlainStmt Name)) (all : Checked (PlainStmts Name × Scope)) →
    length forms ≤ i → front ss (stmts_in heads scope (plain_forms (drop i forms))) ≡ all → all ≡ Ok (stmts ss, scope)
unfolding stmts_in
stmt-end heads scope forms i ss all le inv =
    sym inv ∙ ap (λ fs. front ss (stmts_in heads scope (plain_forms fs))) (drop_of_length-le forms le) ∙ ap (λ x. Ok (x, scope)) (onto-nil ss)
