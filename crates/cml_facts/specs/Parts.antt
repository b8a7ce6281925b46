-- Which part of a statement is at fault: the leftmost innermost one that has no value though its own parts all have values, with these.
use Rattle.std.specs.Prelude.{ℕ, Bool, true, false, if◌then◌else◌, Option, Some, None, Ok, Err, unwrap_or}
use Rattle.std.specs.Option.{option_map_or}
use Rattle.cml_value.specs.Value.{PlainValue, unit, event}
use Rattle.cml_check.specs.Syntax.{PlainExpr, constant, number, text, variable, unary, binary, choose, wrap, guard, with_nack, PlainExprs, no_exprs, exprs_and}
use Rattle.cml_check.specs.Syntax.{PlainEffect, act, act_on_one, act_on_two, PlainSource, value, effect}
use Rattle.cml_check.specs.Syntax.{PlainStmt, let_be, set_to, just_do, if_so, while_so, return_with, PlainStmts, no_stmts, stmts_and}
use Rattle.cml_check.specs.Syntax as syntax
use Rattle.cml_step.specs.Faults.{Found}
use Rattle.cml_step.specs.Evaluate.{evaluate}
use Rattle.cml_facts.specs.declared.fault.part.Part.{Part}
use Rattle.cml_facts.specs.declared.fault.part.Part.TheVariants as part

-- the value of an expression, if it has one, where each variable has the value that `of` says
abbrev pub found_value : Found PlainValue → Option PlainValue
found_value (Ok v) = Some v
found_value (Err why) = None

abbrev pub valued : (ℕ → PlainValue) → PlainExpr ℕ → Option PlainValue
valued of e = found_value (evaluate of e)

-- the first value of some expressions that is no event
abbrev pub is_an_event : PlainValue → Bool
is_an_event (event e) = true
is_an_event v = false

abbrev pub no_event_or : Option PlainValue → Option PlainValue → Option PlainValue
no_event_or (Some v) others = if is_an_event v then others else Some v
no_event_or None others = others

abbrev pub first_no_event : (ℕ → PlainValue) → PlainExprs ℕ → Option PlainValue
first_no_event of no_exprs = None
first_no_event of (exprs_and e es) = no_event_or (valued of e) (first_no_event of es)

-- An expression is at fault itself where all its parts have values; else the first part that has none.
abbrev mutual
  pub part_of : (ℕ → PlainValue) → PlainExpr ℕ → Part
  part_of of (constant c) = part.Other
  part_of of (number z) = part.Other
  part_of of (text bytes) = part.Other
  part_of of (variable x) = part.Other
  part_of of (unary op e) = option_map_or (λ v. part.Unary op v) (valued of e) (part_of of e)
  part_of of (binary op d e) = option_map_or (λ v. option_map_or (λ w. part.Binary op v w) (valued of e) (part_of of e)) (valued of d) (part_of of d)
  part_of of (choose es) = unwrap_or (part_of_first of es) (part.Choose (first_no_event of es))
  part_of of (wrap e f es) = option_map_or (λ v. unwrap_or (part_of_first of es) (part.Wrap v)) (valued of e) (part_of of e)
  part_of of (guard f es) = unwrap_or (part_of_first of es) part.Made
  part_of of (with_nack f es) = unwrap_or (part_of_first of es) part.Made

  -- that of the first of these that has no value, if there is one
  pub part_of_first : (ℕ → PlainValue) → PlainExprs ℕ → Option Part
  part_of_first of no_exprs = None
  part_of_first of (exprs_and e es) = option_map_or (λ v. part_of_first of es) (valued of e) (Some (part_of of e))

-- an effect is at fault itself where all its values are there
abbrev pub part_of_effect : (ℕ → PlainValue) → PlainEffect ℕ → Part
part_of_effect of (act a) = part.Other
part_of_effect of (act_on_one a e) = option_map_or (λ v. part.ActOnOne a v) (valued of e) (part_of of e)
part_of_effect of (act_on_two a d e) = option_map_or (λ v. option_map_or (λ w. part.ActOnTwo a v w) (valued of e) (part_of of e)) (valued of d) (part_of of d)
part_of_effect of (syntax.call f es) = unwrap_or (part_of_first of es) part.Other
part_of_effect of (syntax.spawn f es) = unwrap_or (part_of_first of es) part.Other

abbrev pub part_of_source : (ℕ → PlainValue) → PlainSource ℕ → Part
part_of_source of (value e) = part_of of e
part_of_source of (effect f) = part_of_effect of f

-- a test, and a `return`, are at fault themselves where their values are there
abbrev pub part_of_if : (ℕ → PlainValue) → PlainExpr ℕ → Part
part_of_if of e = option_map_or (λ v. part.If v) (valued of e) (part_of of e)

abbrev pub part_of_while : (ℕ → PlainValue) → PlainExpr ℕ → Part
part_of_while of e = option_map_or (λ v. part.While v) (valued of e) (part_of of e)

abbrev pub part_of_return : (ℕ → PlainValue) → PlainExpr ℕ → Part
part_of_return of e = option_map_or (λ v. part.Returned v) (valued of e) (part_of of e)

abbrev pub part_of_statement : (ℕ → PlainValue) → PlainStmt ℕ → Part
part_of_statement of (let_be x source) = part_of_source of source
part_of_statement of (set_to x e) = part_of of e
part_of_statement of (just_do f) = part_of_effect of f
part_of_statement of (if_so e a b) = part_of_if of e
part_of_statement of (while_so e a) = part_of_while of e
part_of_statement of (return_with e) = part_of_return of e

-- The first of the statements that are left. Where none is left the call returns unit.
abbrev pub part_of_step : (ℕ → PlainValue) → PlainStmts ℕ → Part
part_of_step of no_stmts = part.Returned unit
part_of_step of (stmts_and s ss) = part_of_statement of s
