-- The variables of a call by name, beside their values by slot.
use Rattle.std.proofs.Common.{◌≡◌, ℕ, zero, suc, ◌<◌, Bool, true, false, cond, List, [], ◌∷◌, ◌++◌, length, set, refl, ap, ◌∙◌, arith, Ok, Some, unwrap_or}
use Rattle.std.specs.Str.{bytes_eq}
use Rattle.std.specs.Map.{lookup, set_value}
use Rattle.std.specs.Cmp.Lexicographic.{nat_list_eq_equiv, bytes_decides}
use Rattle.std.proofs.lemmas.Bool.{and_parts, or_parts}
use Rattle.cml_value.specs.Value.{PlainValue, unit, function, values}
use Rattle.cml_check.specs.Syntax.{Name, name_at, PlainExpr, constant, number, text, variable, unary, binary, choose, wrap, guard, with_nack, PlainExprs, no_exprs, exprs_and, expr_map, exprs_map}
use Rattle.cml_check.specs.Names.{AreDistinct, has_name}
use Rattle.cml_check.specs.InOrder.{expr_fits, exprs_fit}
use Rattle.cml_step.specs.Faults.{◌>>=◌}
use Rattle.cml_step.specs.Operators.{unary_value, binary_value, choose_value, wrap_value, guard_value, nack_value}
use Rattle.cml_step.specs.Variables.{Variables, bound, value_of, assigned, slot_value}
use Rattle.cml_step.specs.Evaluate.{evaluate, evaluate_all}

own_name : (x : Name) → bytes_eq x x ≡ true
own_name x = (bytes_decides x x).1 refl

-- a name after another is not that one
other_name : (x : Name) (xs : List Name) (s : ℕ) → has_name xs x ≡ false → s < length xs → bytes_eq (name_at xs s) x ≡ false
other_name x [] s h l = absurd (omega arith)
other_name x (y ∷ ys) zero h l = nat_list_eq_equiv.symm y x ∙ (or_parts (bytes_eq x y) (has_name ys x) h).0
other_name x (y ∷ ys) (suc s) h l = other_name x ys s (or_parts (bytes_eq x y) (has_name ys x) h).1 (omega arith)

looked : (x q : Name) (v : PlainValue) (b : Bool) (rest : Variables) → bytes_eq q x ≡ b →
    unwrap_or (lookup (bytes_eq q) ((x, v) ∷ rest)) unit ≡ cond b v (unwrap_or (lookup (bytes_eq q) rest) unit)
looked x q v true rest h = ap (λ t. unwrap_or (cond t (Some v) (lookup (bytes_eq q) rest)) unit) h
looked x q v false rest h = ap (λ t. unwrap_or (cond t (Some v) (lookup (bytes_eq q) rest)) unit) h

-- a variable has the value of its slot
pub bound_value : (names : List Name) (vs : List PlainValue) (s : ℕ) → AreDistinct names → s < length names → value_of (bound names vs) (name_at names s) ≡ slot_value vs s
bound_value [] vs s d l = absurd (omega arith)
bound_value (x ∷ xs) [] zero d l = looked x x unit true (bound xs []) (own_name x)
bound_value (x ∷ xs) (v ∷ vs) zero d l = looked x x v true (bound xs vs) (own_name x)
bound_value (x ∷ xs) [] (suc s) d l =
    looked x (name_at xs s) unit false (bound xs []) (other_name x xs s d.0 (omega arith)) ∙ bound_value xs [] s d.1 (omega arith)
bound_value (x ∷ xs) (v ∷ vs) (suc s) d l =
    looked x (name_at xs s) v false (bound xs vs) (other_name x xs s d.0 (omega arith)) ∙ bound_value xs vs s d.1 (omega arith)

-- what was not given a value yet is unit
pub bound_unit : (names : List Name) (vs : List PlainValue) → bound names (vs ++ unit ∷ []) ≡ bound names vs
bound_unit [] vs = refl
bound_unit (x ∷ []) [] = refl
bound_unit (x ∷ y ∷ ys) [] = refl
bound_unit (x ∷ xs) (v ∷ vs) = ap (λ t. (x, v) ∷ t) (bound_unit xs vs)

-- a variable that is set has its slot set
pub bound_set : (names : List Name) (vs : List PlainValue) (s : ℕ) (v : PlainValue) → AreDistinct names → s < length names → s < length vs →
    assigned (bound names vs) (name_at names s) v ≡ bound names (set vs s v)
bound_set [] vs s v d l m = absurd (omega arith)
bound_set (x ∷ xs) [] s v d l m = absurd (omega arith)
bound_set (x ∷ xs) (w ∷ vs) zero v d l m = ap (λ t. cond t ((x, v) ∷ bound xs vs) ((x, w) ∷ set_value (bytes_eq x) (bound xs vs) v)) (own_name x)
bound_set (x ∷ xs) (w ∷ vs) (suc s) v d l m =
    ap (λ t. cond t ((x, v) ∷ bound xs vs) ((x, w) ∷ set_value (bytes_eq (name_at xs s)) (bound xs vs) v)) (other_name x xs s d.0 (omega arith))
    ∙ ap (λ t. (x, w) ∷ t) (bound_set xs vs s v d.1 (omega arith) (omega arith))

-- the value of an expression over names is that over slots
module _ (names : List Name) (vs : List PlainValue) (d : AreDistinct names) (fs : List ℕ) where
  mutual
    pub evaluate_named : (e : PlainExpr ℕ) → expr_fits fs (length names) e ≡ true →
        evaluate (value_of (bound names vs)) (expr_map (name_at names) e) ≡ evaluate (slot_value vs) e
    evaluate_named (constant c) h = refl
    evaluate_named (number z) h = refl
    evaluate_named (text bytes) h = refl
    evaluate_named (variable s) h = ap Ok (bound_value names vs s d (grind (arith, h)))
    evaluate_named (unary op e) h = ap (λ r. r >>= (λ v. unary_value op v)) (evaluate_named e h)
    evaluate_named (binary op a b) h =
        let p = evaluate_named a (and_parts _ _ h).0 in let q = evaluate_named b (and_parts _ _ h).1 in
        ap (λ r. r >>= (λ v. evaluate (value_of (bound names vs)) (expr_map (name_at names) b) >>= (λ w. binary_value op v w))) p
        ∙ ap (λ r. evaluate (slot_value vs) a >>= (λ v. r >>= (λ w. binary_value op v w))) q
    evaluate_named (choose es) h = ap (λ r. r >>= choose_value) (all_named es h)
    evaluate_named (wrap e f es) h =
        let p = evaluate_named e (and_parts _ _ (and_parts _ _ h).0).0 in let q = all_named es (and_parts _ _ (and_parts _ _ h).0).1 in
        ap (λ r. r >>= (λ v. evaluate_all (value_of (bound names vs)) (exprs_map (name_at names) es) >>= (λ ws. wrap_value v (function f (values ws))))) p
        ∙ ap (λ r. evaluate (slot_value vs) e >>= (λ v. r >>= (λ ws. wrap_value v (function f (values ws))))) q
    evaluate_named (guard f es) h = ap (λ r. r >>= (λ ws. guard_value (function f (values ws)))) (all_named es (and_parts _ _ h).0)
    evaluate_named (with_nack f es) h = ap (λ r. r >>= (λ ws. nack_value (function f (values ws)))) (all_named es (and_parts _ _ h).0)

    pub all_named : (es : PlainExprs ℕ) → exprs_fit fs (length names) es ≡ true →
        evaluate_all (value_of (bound names vs)) (exprs_map (name_at names) es) ≡ evaluate_all (slot_value vs) es
    all_named no_exprs h = refl
    all_named (exprs_and e es) h =
        let p = evaluate_named e (and_parts _ _ h).0 in let q = all_named es (and_parts _ _ h).1 in
        ap (λ r. r >>= (λ v. evaluate_all (value_of (bound names vs)) (exprs_map (name_at names) es) >>= (λ ws. Ok (v ∷ ws)))) p
        ∙ ap (λ r. evaluate (slot_value vs) e >>= (λ v. r >>= (λ ws. Ok (v ∷ ws)))) q
