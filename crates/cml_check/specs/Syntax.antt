-- A program, apart from how it lies in memory. V is what stands for a variable: its name in the text; in the code its slot, which is the
-- position of its name among the names that the function declares.
use Rattle.std.specs.Prelude.{ℕ, ℤ, ◌+◌, max, List, [], ◌∷◌, get_or}
use Rattle.cml_check.specs.declared.syntax.Constant.{Constant}
use Rattle.cml_check.specs.declared.syntax.Unary.{Unary}
use Rattle.cml_check.specs.declared.syntax.Binary.{Binary}
use Rattle.cml_check.specs.declared.syntax.Act.{Act}
use Rattle.cml_check.specs.declared.syntax.ActOnOne.{ActOnOne}
use Rattle.cml_check.specs.declared.syntax.ActOnTwo.{ActOnTwo}

-- An expression has a value and no effect. A function stands by its number, with the values that it captures after it.
mutual
  pub data PlainExpr (V : Type 0) : Type 0 where
    constant : Constant → PlainExpr V
    number : ℤ → PlainExpr V
    text : List ℕ → PlainExpr V
    variable : V → PlainExpr V
    unary : Unary → PlainExpr V → PlainExpr V
    binary : Binary → PlainExpr V → PlainExpr V → PlainExpr V
    choose : PlainExprs V → PlainExpr V
    wrap : PlainExpr V → ℕ → PlainExprs V → PlainExpr V
    guard : ℕ → PlainExprs V → PlainExpr V
    with_nack : ℕ → PlainExprs V → PlainExpr V

  pub data PlainExprs (V : Type 0) : Type 0 where
    no_exprs : PlainExprs V
    exprs_and : PlainExpr V → PlainExprs V → PlainExprs V

pub data PlainEffect (V : Type 0) : Type 0 where
  act : Act → PlainEffect V
  act_on_one : ActOnOne → PlainExpr V → PlainEffect V
  act_on_two : ActOnTwo → PlainExpr V → PlainExpr V → PlainEffect V
  call : ℕ → PlainExprs V → PlainEffect V
  spawn : ℕ → PlainExprs V → PlainEffect V

-- what a `let` gives its variable: the value of an expression, or what an effect returns
pub data PlainSource (V : Type 0) : Type 0 where
  value : PlainExpr V → PlainSource V
  effect : PlainEffect V → PlainSource V

mutual
  pub data PlainStmt (V : Type 0) : Type 0 where
    let_be : V → PlainSource V → PlainStmt V
    set_to : V → PlainExpr V → PlainStmt V
    just_do : PlainEffect V → PlainStmt V
    if_so : PlainExpr V → PlainStmts V → PlainStmts V → PlainStmt V
    while_so : PlainExpr V → PlainStmts V → PlainStmt V
    return_with : PlainExpr V → PlainStmt V

  pub data PlainStmts (V : Type 0) : Type 0 where
    no_stmts : PlainStmts V
    stmts_and : PlainStmt V → PlainStmts V → PlainStmts V

abbrev pub exprs : {V : Type 0} → List (PlainExpr V) → PlainExprs V
exprs [] = no_exprs
exprs (e ∷ es) = exprs_and e (exprs es)

abbrev pub stmts : {V : Type 0} → List (PlainStmt V) → PlainStmts V
stmts [] = no_stmts
stmts (s ∷ ss) = stmts_and s (stmts ss)

-- the same, with each variable replaced by what the function makes of it
abbrev mutual
  pub expr_map : {V W : Type 0} → (V → W) → PlainExpr V → PlainExpr W
  expr_map f (constant c) = constant c
  expr_map f (number z) = number z
  expr_map f (text bytes) = text bytes
  expr_map f (variable v) = variable (f v)
  expr_map f (unary op e) = unary op (expr_map f e)
  expr_map f (binary op d e) = binary op (expr_map f d) (expr_map f e)
  expr_map f (choose es) = choose (exprs_map f es)
  expr_map f (wrap e n es) = wrap (expr_map f e) n (exprs_map f es)
  expr_map f (guard n es) = guard n (exprs_map f es)
  expr_map f (with_nack n es) = with_nack n (exprs_map f es)

  pub exprs_map : {V W : Type 0} → (V → W) → PlainExprs V → PlainExprs W
  exprs_map f no_exprs = no_exprs
  exprs_map f (exprs_and e es) = exprs_and (expr_map f e) (exprs_map f es)

-- a function by its number, with what it is given
abbrev pub call_map : {V W : Type 0} → (V → W) → ℕ × PlainExprs V → ℕ × PlainExprs W
call_map f c = (c.0, exprs_map f c.1)

abbrev pub effect_map : {V W : Type 0} → (V → W) → PlainEffect V → PlainEffect W
effect_map f (act a) = act a
effect_map f (act_on_one a e) = act_on_one a (expr_map f e)
effect_map f (act_on_two a d e) = act_on_two a (expr_map f d) (expr_map f e)
effect_map f (call n es) = call n (exprs_map f es)
effect_map f (spawn n es) = spawn n (exprs_map f es)

abbrev pub source_map : {V W : Type 0} → (V → W) → PlainSource V → PlainSource W
source_map f (value e) = value (expr_map f e)
source_map f (effect e) = effect (effect_map f e)

abbrev mutual
  pub stmt_map : {V W : Type 0} → (V → W) → PlainStmt V → PlainStmt W
  stmt_map f (let_be v r) = let_be (f v) (source_map f r)
  stmt_map f (set_to v e) = set_to (f v) (expr_map f e)
  stmt_map f (just_do e) = just_do (effect_map f e)
  stmt_map f (if_so e a b) = if_so (expr_map f e) (stmts_map f a) (stmts_map f b)
  stmt_map f (while_so e a) = while_so (expr_map f e) (stmts_map f a)
  stmt_map f (return_with e) = return_with (expr_map f e)

  pub stmts_map : {V W : Type 0} → (V → W) → PlainStmts V → PlainStmts W
  stmts_map f no_stmts = no_stmts
  stmts_map f (stmts_and s ss) = stmts_and (stmt_map f s) (stmts_map f ss)

abbrev pub Name : Type 0
Name = List ℕ

-- A function: its name; the names that it declares, its parameters first and then those of its `let`s as they come; how many of them are
-- parameters; and its statements.
pub record PlainItem (V : Type 0) : Type 0 where
  pub name : Name
  pub names : List Name
  pub arity : ℕ
  pub body : PlainStmts V

-- the name of a slot
abbrev pub name_at : List Name → ℕ → Name
name_at names slot = get_or names slot []

-- the function as it is written
abbrev pub written : PlainItem ℕ → PlainItem Name
written f = record { name = f.name; names = f.names; arity = f.arity; body = stmts_map (name_at f.names) f.body }

-- how deep expressions, and statements, stand in one another
abbrev mutual
  pub expr_depth : PlainExpr ℕ → ℕ
  expr_depth (unary op e) = expr_depth e + 1
  expr_depth (binary op d e) = max (expr_depth d + 1) (expr_depth e + 1)
  expr_depth (choose es) = exprs_depth es + 1
  expr_depth (wrap e n es) = max (expr_depth e + 1) (exprs_depth es + 1)
  expr_depth (guard n es) = exprs_depth es + 1
  expr_depth (with_nack n es) = exprs_depth es + 1
  expr_depth _ = 0

  pub exprs_depth : PlainExprs ℕ → ℕ
  exprs_depth no_exprs = 0
  exprs_depth (exprs_and e es) = max (expr_depth e + 1) (exprs_depth es)

abbrev mutual
  pub stmt_depth : PlainStmt ℕ → ℕ
  stmt_depth (if_so e a b) = max (stmts_depth a + 1) (stmts_depth b + 1)
  stmt_depth (while_so e a) = stmts_depth a + 1
  stmt_depth _ = 0

  pub stmts_depth : PlainStmts ℕ → ℕ
  stmts_depth no_stmts = 0
  stmts_depth (stmts_and s ss) = max (stmt_depth s + 1) (stmts_depth ss)
