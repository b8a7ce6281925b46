-- The value of an expression. Its parts are evaluated from the left, and all of them before what is made of them.
use Rattle.std.specs.Prelude.{Bool, List, [], ◌∷◌, Ok}
use Rattle.cml_check.specs.Syntax.{PlainExpr, constant, number, text, variable, unary, binary, choose, wrap, guard, with_nack, PlainExprs, no_exprs, exprs_and}
use Rattle.cml_value.specs.Value.{PlainValue, int, function, values}
use Rattle.cml_value.specs.Value as value
use Rattle.cml_step.specs.Faults.{Found, ◌>>=◌}
use Rattle.cml_step.specs.Kinds.{as_truth}
use Rattle.cml_step.specs.Operators.{constant_value, unary_value, binary_value, choose_value, wrap_value, guard_value, nack_value}

abbrev mutual
  -- where each variable has the value that `of` says
  pub evaluate : {V : Type 0} → (V → PlainValue) → PlainExpr V → Found PlainValue
  evaluate of (constant c) = constant_value c
  evaluate of (number z) = Ok (int z)
  evaluate of (text bytes) = Ok (value.text bytes)
  evaluate of (variable x) = Ok (of x)
  evaluate of (unary op e) = do
    v ← evaluate of e
    unary_value op v
  evaluate of (binary op d e) = do
    v ← evaluate of d
    w ← evaluate of e
    binary_value op v w
  evaluate of (choose es) = do
    vs ← evaluate_all of es
    choose_value vs
  evaluate of (wrap e f es) = do
    v ← evaluate of e
    vs ← evaluate_all of es
    wrap_value v (function f (values vs))
  evaluate of (guard f es) = do
    vs ← evaluate_all of es
    guard_value (function f (values vs))
  evaluate of (with_nack f es) = do
    vs ← evaluate_all of es
    nack_value (function f (values vs))

  pub evaluate_all : {V : Type 0} → (V → PlainValue) → PlainExprs V → Found (List PlainValue)
  evaluate_all of no_exprs = Ok []
  evaluate_all of (exprs_and e es) = do
    v ← evaluate of e
    vs ← evaluate_all of es
    Ok (v ∷ vs)

-- whether a test holds: its value is a truth value
abbrev pub truth_found : Found PlainValue → Found Bool
truth_found found = do
  v ← found
  as_truth v

abbrev pub holds : {V : Type 0} → (V → PlainValue) → PlainExpr V → Found Bool
holds of e = truth_found (evaluate of e)
