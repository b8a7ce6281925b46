-- A code of each piece of a program in slots: a tree of numbers from which it can be read back. The toolchain asks for one; no rule
-- uses it.
use Rattle.std.specs.Prelude.{◌≡◌, ℕ, List, [], ◌∷◌, get_or, refl}
use Rattle.std.specs.Coded.{Coded, code_by, coded×, coded_ℕ, coded_ℤ, coded_list}
use Rattle.std.proofs.Common.{arith}
use base.Stored.{Gv, gnil, gnum, gcons}
use Rattle.cml_check.specs.declared.syntax.Constant.{Constant}
use Rattle.cml_check.specs.declared.syntax.Constant.TheVariants as constant_of
use Rattle.cml_check.specs.declared.syntax.Unary.{Unary}
use Rattle.cml_check.specs.declared.syntax.Unary.TheVariants as unary_of
use Rattle.cml_check.specs.declared.syntax.Binary.{Binary}
use Rattle.cml_check.specs.declared.syntax.Binary.TheVariants as binary_of
use Rattle.cml_check.specs.declared.syntax.Act.{Act}
use Rattle.cml_check.specs.declared.syntax.Act.TheVariants as act_of
use Rattle.cml_check.specs.declared.syntax.ActOnOne.{ActOnOne}
use Rattle.cml_check.specs.declared.syntax.ActOnOne.TheVariants as one_of
use Rattle.cml_check.specs.declared.syntax.ActOnTwo.{ActOnTwo}
use Rattle.cml_check.specs.declared.syntax.ActOnTwo.TheVariants as two_of
use Rattle.cml_check.specs.Syntax.{PlainExpr, constant, number, text, variable, unary, binary, choose, wrap, guard, with_nack, PlainExprs, no_exprs, exprs_and}
use Rattle.cml_check.specs.Syntax.{PlainEffect, act, act_on_one, act_on_two, call, spawn, PlainSource, value, effect}
use Rattle.cml_check.specs.Syntax.{PlainStmt, let_be, set_to, just_do, if_so, while_so, return_with, PlainStmts, no_stmts, stmts_and, PlainItem, Name}

abbrev pub constant_number : Constant → ℕ
constant_number constant_of.True = 0
constant_number constant_of.False = 1
constant_number constant_of.Unit = 2
constant_number constant_of.Never = 3

abbrev pub constant_by : ℕ → Constant
constant_by n = get_or (constant_of.True ∷ constant_of.False ∷ constant_of.Unit ∷ constant_of.Never ∷ []) n constant_of.True

pub constant_back : (x : Constant) → constant_by (constant_number x) ≡ x
constant_back constant_of.True = refl
constant_back constant_of.False = refl
constant_back constant_of.Unit = refl
constant_back constant_of.Never = refl

abbrev pub constant_code : Coded Constant
constant_code = code_by ℕ coded_ℕ constant_number constant_by constant_back

abbrev pub unary_number : Unary → ℕ
unary_number unary_of.Not = 0
unary_number unary_of.Fst = 1
unary_number unary_of.Snd = 2
unary_number unary_of.Always = 3
unary_number unary_of.Recv = 4
unary_number unary_of.IGet = 5
unary_number unary_of.MTake = 6
unary_number unary_of.MGet = 7
unary_number unary_of.MailRecv = 8
unary_number unary_of.PortRecv = 9
unary_number unary_of.Join = 10
unary_number unary_of.At = 11
unary_number unary_of.After = 12

abbrev pub unary_by : ℕ → Unary
unary_by n =
    get_or (unary_of.Not ∷ unary_of.Fst ∷ unary_of.Snd ∷ unary_of.Always ∷ unary_of.Recv ∷ unary_of.IGet ∷ unary_of.MTake ∷ unary_of.MGet ∷
    unary_of.MailRecv ∷ unary_of.PortRecv ∷ unary_of.Join ∷ unary_of.At ∷ unary_of.After ∷ []) n unary_of.Not

pub unary_back : (x : Unary) → unary_by (unary_number x) ≡ x
unary_back unary_of.Not = refl
unary_back unary_of.Fst = refl
unary_back unary_of.Snd = refl
unary_back unary_of.Always = refl
unary_back unary_of.Recv = refl
unary_back unary_of.IGet = refl
unary_back unary_of.MTake = refl
unary_back unary_of.MGet = refl
unary_back unary_of.MailRecv = refl
unary_back unary_of.PortRecv = refl
unary_back unary_of.Join = refl
unary_back unary_of.At = refl
unary_back unary_of.After = refl

abbrev pub unary_code : Coded Unary
unary_code = code_by ℕ coded_ℕ unary_number unary_by unary_back

abbrev pub binary_number : Binary → ℕ
binary_number binary_of.Plus = 0
binary_number binary_of.Minus = 1
binary_number binary_of.Times = 2
binary_number binary_of.Less = 3
binary_number binary_of.Equal = 4
binary_number binary_of.Pair = 5
binary_number binary_of.Send = 6
binary_number binary_of.Swap = 7
binary_number binary_of.MSwap = 8

abbrev pub binary_by : ℕ → Binary
binary_by n = get_or (binary_of.Plus ∷ binary_of.Minus ∷ binary_of.Times ∷ binary_of.Less ∷ binary_of.Equal ∷ binary_of.Pair ∷ binary_of.Send ∷ binary_of.Swap ∷ binary_of.MSwap ∷ []) n binary_of.Plus

pub binary_back : (x : Binary) → binary_by (binary_number x) ≡ x
binary_back binary_of.Plus = refl
binary_back binary_of.Minus = refl
binary_back binary_of.Times = refl
binary_back binary_of.Less = refl
binary_back binary_of.Equal = refl
binary_back binary_of.Pair = refl
binary_back binary_of.Send = refl
binary_back binary_of.Swap = refl
binary_back binary_of.MSwap = refl

abbrev pub binary_code : Coded Binary
binary_code = code_by ℕ coded_ℕ binary_number binary_by binary_back

abbrev pub act_number : Act → ℕ
act_number act_of.Chan = 0
act_number act_of.SwapChan = 1
act_number act_of.IVar = 2
act_number act_of.MVar = 3
act_number act_of.Mailbox = 4
act_number act_of.Mchan = 5
act_number act_of.Exit = 6
act_number act_of.Yield = 7
act_number act_of.OwnThread = 8
act_number act_of.Now = 9

abbrev pub act_by : ℕ → Act
act_by n = get_or (act_of.Chan ∷ act_of.SwapChan ∷ act_of.IVar ∷ act_of.MVar ∷ act_of.Mailbox ∷ act_of.Mchan ∷ act_of.Exit ∷ act_of.Yield ∷ act_of.OwnThread ∷ act_of.Now ∷ []) n act_of.Chan

pub act_back : (x : Act) → act_by (act_number x) ≡ x
act_back act_of.Chan = refl
act_back act_of.SwapChan = refl
act_back act_of.IVar = refl
act_back act_of.MVar = refl
act_back act_of.Mailbox = refl
act_back act_of.Mchan = refl
act_back act_of.Exit = refl
act_back act_of.Yield = refl
act_back act_of.OwnThread = refl
act_back act_of.Now = refl

abbrev pub act_code : Coded Act
act_code = code_by ℕ coded_ℕ act_number act_by act_back

abbrev pub one_number : ActOnOne → ℕ
one_number one_of.Sync = 0
one_number one_of.MVar = 1
one_number one_of.Port = 2
one_number one_of.Copy = 3
one_number one_of.Print = 4

abbrev pub one_by : ℕ → ActOnOne
one_by n = get_or (one_of.Sync ∷ one_of.MVar ∷ one_of.Port ∷ one_of.Copy ∷ one_of.Print ∷ []) n one_of.Sync

pub one_back : (x : ActOnOne) → one_by (one_number x) ≡ x
one_back one_of.Sync = refl
one_back one_of.MVar = refl
one_back one_of.Port = refl
one_back one_of.Copy = refl
one_back one_of.Print = refl

abbrev pub one_code : Coded ActOnOne
one_code = code_by ℕ coded_ℕ one_number one_by one_back

abbrev pub two_number : ActOnTwo → ℕ
two_number two_of.IPut = 0
two_number two_of.MPut = 1
two_number two_of.Mail = 2
two_number two_of.Multicast = 3

abbrev pub two_by : ℕ → ActOnTwo
two_by n = get_or (two_of.IPut ∷ two_of.MPut ∷ two_of.Mail ∷ two_of.Multicast ∷ []) n two_of.IPut

pub two_back : (x : ActOnTwo) → two_by (two_number x) ≡ x
two_back two_of.IPut = refl
two_back two_of.MPut = refl
two_back two_of.Mail = refl
two_back two_of.Multicast = refl

abbrev pub two_code : Coded ActOnTwo
two_code = code_by ℕ coded_ℕ two_number two_by two_back

heads : (m n : ℕ) (x y : Gv) → gcons (gnum m) x ≡ gcons (gnum n) y → m ≡ n
heads m n x y p = cc

abbrev mutual
  pub expr_gv : PlainExpr ℕ → Gv
  expr_gv (constant c) = gcons (gnum 0) (constant_code.code c)
  expr_gv (number z) = gcons (gnum 1) (coded_ℤ.code z)
  expr_gv (text bytes) = gcons (gnum 2) ((coded_list coded_ℕ).code bytes)
  expr_gv (variable v) = gcons (gnum 3) (gnum v)
  expr_gv (unary op e) = gcons (gnum 4) (gcons (unary_code.code op) (expr_gv e))
  expr_gv (binary op d e) = gcons (gnum 5) (gcons (binary_code.code op) (gcons (expr_gv d) (expr_gv e)))
  expr_gv (choose es) = gcons (gnum 6) (exprs_gv es)
  expr_gv (wrap e n es) = gcons (gnum 7) (gcons (expr_gv e) (gcons (gnum n) (exprs_gv es)))
  expr_gv (guard n es) = gcons (gnum 8) (gcons (gnum n) (exprs_gv es))
  expr_gv (with_nack n es) = gcons (gnum 9) (gcons (gnum n) (exprs_gv es))

  pub exprs_gv : PlainExprs ℕ → Gv
  exprs_gv no_exprs = gnil
  exprs_gv (exprs_and e es) = gcons (expr_gv e) (exprs_gv es)

abbrev pub effect_gv : PlainEffect ℕ → Gv
effect_gv (act a) = gcons (gnum 0) (act_code.code a)
effect_gv (act_on_one a e) = gcons (gnum 1) (gcons (one_code.code a) (expr_gv e))
effect_gv (act_on_two a d e) = gcons (gnum 2) (gcons (two_code.code a) (gcons (expr_gv d) (expr_gv e)))
effect_gv (call n es) = gcons (gnum 3) (gcons (gnum n) (exprs_gv es))
effect_gv (spawn n es) = gcons (gnum 4) (gcons (gnum n) (exprs_gv es))

abbrev pub source_gv : PlainSource ℕ → Gv
source_gv (value e) = gcons (gnum 0) (expr_gv e)
source_gv (effect e) = gcons (gnum 1) (effect_gv e)

abbrev mutual
  pub stmt_gv : PlainStmt ℕ → Gv
  stmt_gv (let_be v r) = gcons (gnum 0) (gcons (gnum v) (source_gv r))
  stmt_gv (set_to v e) = gcons (gnum 1) (gcons (gnum v) (expr_gv e))
  stmt_gv (just_do e) = gcons (gnum 2) (effect_gv e)
  stmt_gv (if_so e a b) = gcons (gnum 3) (gcons (expr_gv e) (gcons (stmts_gv a) (stmts_gv b)))
  stmt_gv (while_so e a) = gcons (gnum 4) (gcons (expr_gv e) (stmts_gv a))
  stmt_gv (return_with e) = gcons (gnum 5) (expr_gv e)

  pub stmts_gv : PlainStmts ℕ → Gv
  stmts_gv no_stmts = gnil
  stmts_gv (stmts_and s ss) = gcons (stmt_gv s) (stmts_gv ss)

mutual
  pub expr_gv_inj : (x y : PlainExpr ℕ) → expr_gv x ≡ expr_gv y → x ≡ y
  expr_gv_inj (constant a) (constant b) p = let e = constant_code.inj a b (cc) in cc
  expr_gv_inj (number a) (number b) p = let e = coded_ℤ.inj a b (cc) in cc
  expr_gv_inj (text a) (text b) p = let e = (coded_list coded_ℕ).inj a b (cc) in cc
  expr_gv_inj (variable a) (variable b) p = cc
  expr_gv_inj (unary o a) (unary q b) p = let e = unary_code.inj o q (cc) in let f = expr_gv_inj a b (cc) in cc
  expr_gv_inj (binary o a b) (binary q c d) p = let e = binary_code.inj o q (cc) in let f = expr_gv_inj a c (cc) in let g = expr_gv_inj b d (cc) in cc
  expr_gv_inj (choose a) (choose b) p = let e = exprs_gv_inj a b (cc) in cc
  expr_gv_inj (wrap a m xs) (wrap b n ys) p = let e = expr_gv_inj a b (cc) in let f = exprs_gv_inj xs ys (cc) in cc
  expr_gv_inj (guard m xs) (guard n ys) p = let f = exprs_gv_inj xs ys (cc) in cc
  expr_gv_inj (with_nack m xs) (with_nack n ys) p = let f = exprs_gv_inj xs ys (cc) in cc
  expr_gv_inj _ _ p = absurd (omega (arith, heads _ _ _ _ p))

  pub exprs_gv_inj : (x y : PlainExprs ℕ) → exprs_gv x ≡ exprs_gv y → x ≡ y
  exprs_gv_inj no_exprs no_exprs p = refl
  exprs_gv_inj (exprs_and v vs) (exprs_and w ws) p = let e = expr_gv_inj v w (cc) in let f = exprs_gv_inj vs ws (cc) in cc
  exprs_gv_inj _ _ p = cc

pub effect_gv_inj : (x y : PlainEffect ℕ) → effect_gv x ≡ effect_gv y → x ≡ y
effect_gv_inj (act a) (act b) p = let e = act_code.inj a b (cc) in cc
effect_gv_inj (act_on_one o a) (act_on_one q b) p = let e = one_code.inj o q (cc) in let f = expr_gv_inj a b (cc) in cc
effect_gv_inj (act_on_two o a b) (act_on_two q c d) p = let e = two_code.inj o q (cc) in let f = expr_gv_inj a c (cc) in let g = expr_gv_inj b d (cc) in cc
effect_gv_inj (call m xs) (call n ys) p = let f = exprs_gv_inj xs ys (cc) in cc
effect_gv_inj (spawn m xs) (spawn n ys) p = let f = exprs_gv_inj xs ys (cc) in cc
effect_gv_inj _ _ p = cc

pub source_gv_inj : (x y : PlainSource ℕ) → source_gv x ≡ source_gv y → x ≡ y
source_gv_inj (value a) (value b) p = let e = expr_gv_inj a b (cc) in cc
source_gv_inj (effect a) (effect b) p = let e = effect_gv_inj a b (cc) in cc
source_gv_inj _ _ p = cc

mutual
  pub stmt_gv_inj : (x y : PlainStmt ℕ) → stmt_gv x ≡ stmt_gv y → x ≡ y
  stmt_gv_inj (let_be v a) (let_be w b) p = let f = source_gv_inj a b (cc) in cc
  stmt_gv_inj (set_to v a) (set_to w b) p = let f = expr_gv_inj a b (cc) in cc
  stmt_gv_inj (just_do a) (just_do b) p = let f = effect_gv_inj a b (cc) in cc
  stmt_gv_inj (if_so e a b) (if_so f c d) p = let h = expr_gv_inj e f (cc) in let i = stmts_gv_inj a c (cc) in let j = stmts_gv_inj b d (cc) in cc
  stmt_gv_inj (while_so e a) (while_so f b) p = let h = expr_gv_inj e f (cc) in let i = stmts_gv_inj a b (cc) in cc
  stmt_gv_inj (return_with a) (return_with b) p = let f = expr_gv_inj a b (cc) in cc
  stmt_gv_inj _ _ p = cc

  pub stmts_gv_inj : (x y : PlainStmts ℕ) → stmts_gv x ≡ stmts_gv y → x ≡ y
  stmts_gv_inj no_stmts no_stmts p = refl
  stmts_gv_inj (stmts_and v vs) (stmts_and w ws) p = let e = stmt_gv_inj v w (cc) in let f = stmts_gv_inj vs ws (cc) in cc
  stmts_gv_inj _ _ p = cc

abbrev pub expr_code : Coded (PlainExpr ℕ)
expr_code = record { code = expr_gv; inj = expr_gv_inj }

abbrev pub exprs_code : Coded (PlainExprs ℕ)
exprs_code = record { code = exprs_gv; inj = exprs_gv_inj }

abbrev pub stmt_code : Coded (PlainStmt ℕ)
stmt_code = record { code = stmt_gv; inj = stmt_gv_inj }

abbrev pub stmts_code : Coded (PlainStmts ℕ)
stmts_code = record { code = stmts_gv; inj = stmts_gv_inj }

abbrev pub plain_item_code : Coded (PlainItem ℕ)
plain_item_code =
    code_by (Name × (List Name × (ℕ × PlainStmts ℕ))) (coded× (coded_list coded_ℕ) (coded× (coded_list (coded_list coded_ℕ)) (coded× coded_ℕ stmts_code)))
    (λ f. (f.name, (f.names, (f.arity, f.body)))) (λ p. record { name = p.0; names = p.1.0; arity = p.1.1.0; body = p.1.1.1 }) (λ _. refl)
