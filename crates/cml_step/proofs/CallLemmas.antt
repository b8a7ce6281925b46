-- A call's slots, and what it does at its place.
use Rattle.std.proofs.Common.{◌≡◌, ℕ, zero, suc, Bool, true, false, List, [], ◌∷◌, ◌++◌, ◌≤◌, length, set, take, refl, ap, sym, ◌∙◌, subst, Result, Ok, Err}
use Rattle.std.specs.Prelude.{if◌then◌else◌}
use Rattle.std.proofs.lemmas.List.{take-append-le}
use Rattle.std.proofs.lemmas.Bool.{and_parts, and_from}
use Rattle.cml_value.specs.Value.{PlainValue, unit}
use Rattle.cml_check.specs.Syntax.{Name, name_at, PlainExpr, expr_map, PlainStmt, if_so, while_so, PlainStmts, no_stmts, stmts_and, stmt_map, stmts_map, PlainItem}
use Rattle.cml_check.specs.Layout.{and_then, left}
use Rattle.cml_check.specs.Follows.{FollowsIf, FollowsWhile}
use Rattle.cml_step.specs.declared.fault.Fault.{Fault}
use Rattle.cml_step.specs.declared.fault.Stop.{Stop}
use Rattle.cml_step.specs.declared.call.Action.{Action}
use Rattle.cml_step.specs.Faults.{Found}
use Rattle.cml_step.specs.Kinds.{as_truth}
use Rattle.cml_step.specs.Evaluate.{evaluate, truth_found, holds}
use Rattle.cml_step.specs.declared.call.Call.{Call}
use Rattle.cml_step.specs.Terms.{Program, runs, Term, call}
use Rattle.cml_check.specs.Names.{AreDistinct}
use Rattle.cml_step.specs.declared.call.Wait.{Wait}
use Rattle.cml_step.specs.declared.call.Wait.TheVariants as wait
use Rattle.cml_step.specs.Variables.{Variables, bound, value_of}
use Rattle.cml_step.specs.Steps.{PlainStep, goes_on, ◌>>=◌, filled, delivered, call_step, statement_step, next}
use Rattle.cml_step.specs.Calls.{call_at, entry_for, text_of, variables_of, statements_at, chosen, wait_of, slots_with, WaitFits, ActionAgrees, Moves, Stays, StepsOn, RunsOn}
use Rattle.cml_step.specs.Agrees.{value_agrees, all_agree}
use Rattle.cml_step.proofs.VariableLemmas.{bound_unit, bound_set}

pub padded : (names : List Name) (vs ws : List PlainValue) → bound names vs ≡ bound names ws → bound names (vs ++ unit ∷ []) ≡ bound names ws
padded names vs ws h = bound_unit names vs ∙ h

pub agree_padded : (fs : List ℕ) (vs : List PlainValue) → all_agree fs vs ≡ true → all_agree fs (vs ++ unit ∷ []) ≡ true
agree_padded fs [] h = refl
agree_padded fs (v ∷ vs) h = and_from _ _ (and_parts _ _ h).0 (agree_padded fs vs (and_parts (value_agrees fs v) _ h).1)

-- the slots that there were
pub take_all : {A : Type 0} → (xs : List A) → take (length xs) xs ≡ xs
take_all [] = refl
take_all (x ∷ xs) = ap (λ ys. x ∷ ys) (take_all xs)

pub had_padded : (n : ℕ) (vs ws : List PlainValue) → n ≤ length vs → take n vs ≡ ws → take n (vs ++ unit ∷ []) ≡ ws
had_padded n vs ws l h = take-append-le n vs (unit ∷ []) l ∙ h

pub agree_set : (fs : List ℕ) (vs : List PlainValue) (s : ℕ) (v : PlainValue) → all_agree fs vs ≡ true → value_agrees fs v ≡ true → all_agree fs (set vs s v) ≡ true
agree_set fs [] s v h g = h
agree_set fs (w ∷ vs) zero v h g = and_from _ _ g (and_parts (value_agrees fs w) _ h).1
agree_set fs (w ∷ vs) (suc s) v h g = and_from _ _ (and_parts _ _ h).0 (agree_set fs vs s v (and_parts (value_agrees fs w) _ h).1 g)

-- the variables of a call, where the value has come that it waited for
pub filled_is : (names : List Name) (vs : List PlainValue) (w : Wait) (v : PlainValue) → AreDistinct names → WaitFits w (length names) (length vs) →
    filled (wait_of names w) v (bound names vs) ≡ bound names (slots_with w v vs)
filled_is names vs wait.Runs v d h = refl
filled_is names vs wait.Drops v d h = refl
filled_is names vs (wait.Gives slot) v d h = bound_set names vs slot v d h.0 h.1

pub agree_filled : (fs : List ℕ) (vs : List PlainValue) (w : Wait) (v : PlainValue) → all_agree fs vs ≡ true → value_agrees fs v ≡ true → all_agree fs (slots_with w v vs) ≡ true
agree_filled fs vs wait.Runs v h g = h
agree_filled fs vs wait.Drops v h g = h
agree_filled fs vs (wait.Gives slot) v h g = agree_set fs vs slot v h g

pub wait_room : (w : Wait) (n m : ℕ) → WaitFits w n m → WaitFits w m m
wait_room wait.Runs n m h = tt
wait_room wait.Drops n m h = tt
wait_room (wait.Gives slot) n m h = (h.1, h.1)

-- over names: one list of statements, and then another
pub map_and_then : {V W : Type 0} → (g : V → W) (a b : PlainStmts V) → stmts_map g (and_then a b) ≡ and_then (stmts_map g a) (stmts_map g b)
map_and_then g no_stmts b = refl
map_and_then g (stmts_and s ss) b = ap (stmts_and (stmt_map g s)) (map_and_then g ss b)

-- the test of a value that was found
pub tested : {V : Type 0} → (of : V → PlainValue) (e : PlainExpr V) (v : PlainValue) (r : Found Bool) → evaluate of e ≡ Ok v → as_truth v ≡ r → holds of e ≡ r
tested of e v r p q = ap truth_found p ∙ q

pub not_tested : {V : Type 0} → (of : V → PlainValue) (e : PlainExpr V) (why : Fault) → evaluate of e ≡ Err why → holds of e ≡ Err why
not_tested of e why p = ap truth_found p

pub runs_on_stays : (fs : List ℕ) (f : PlainItem ℕ) (r : Result Action Stop) (old new : Call) → RunsOn fs old new → ActionAgrees fs r → Stays fs f r old new
runs_on_stays fs f r old new on did = record {
  agree = on.agree;
  waits = subst (λ w. WaitFits w (length f.names) (length new.slots.items)) (sym on.runs) tt;
  agrees = did;
  same = on.same;
}

-- a call that runs does what is left at its place
pub steps_there : (p : Program) (self : ℕ) (f : PlainItem ℕ) (c : Call) (below : Term) → c.wait ≡ wait.Runs →
    next p self (entry_for f c ∷ below) ≡ call_step p self (statements_at f c.at) (variables_of f c) below
steps_there p self f c below is = ap (λ w. next p self (call_at f c.at c.slots.items w ∷ below)) is

module _ (p : Program) (self : ℕ) (f : PlainItem ℕ) (variables : Variables) (below : Term) where
  -- a call does the statement at its place
  pub at_statement : (at : ℕ) (s : PlainStmt ℕ) (k : PlainStmts ℕ) → left f.body at ≡ stmts_and s k →
      call_step p self (statements_at f at) variables below ≡ statement_step p self (stmt_map (name_at f.names) s) (stmts_map (name_at f.names) k) variables below
  at_statement at s k is = ap (λ ss. call_step p self (stmts_map (name_at f.names) ss) variables below) is

  pub at_end : (at : ℕ) → left f.body at ≡ no_stmts → call_step p self (statements_at f at) variables below ≡ delivered unit below
  at_end at is = ap (λ ss. call_step p self (stmts_map (name_at f.names) ss) variables below) is

  -- a choice goes on at one of its places
  module _ (a b k : PlainStmts ℕ) (first second : ℕ) (on : left f.body first ≡ and_then a k) (off : left f.body second ≡ and_then b k) where
    abbrev of_choice : Bool → PlainStep
    of_choice h = goes_on (call (and_then (if h then stmts_map (name_at f.names) a else stmts_map (name_at f.names) b) (stmts_map (name_at f.names) k)) variables runs ∷ below)

    choice_by : (r : Found Bool) → (r >>= of_choice) ≡ chosen f r first second variables below
    choice_by (Ok true) = ap (λ ss. goes_on (call ss variables runs ∷ below)) (sym (ap (stmts_map (name_at f.names)) on ∙ map_and_then (name_at f.names) a k))
    choice_by (Ok false) = ap (λ ss. goes_on (call ss variables runs ∷ below)) (sym (ap (stmts_map (name_at f.names)) off ∙ map_and_then (name_at f.names) b k))
    choice_by (Err why) = refl

    choice_of : (found : Found PlainValue) → (found >>= λ v. as_truth v >>= of_choice) ≡ chosen f (truth_found found) first second variables below
    choice_of (Ok v) = choice_by (as_truth v)
    choice_of (Err why) = refl

  -- a loop too
  module _ (s : PlainStmt Name) (a here : PlainStmts ℕ) (body next : ℕ) (on : left f.body body ≡ and_then a here)
      (is : stmts_map (name_at f.names) here ≡ stmts_and s (statements_at f next)) where
    abbrev of_loop : Bool → PlainStep
    of_loop h = goes_on (call (if h then and_then (stmts_map (name_at f.names) a) (stmts_and s (statements_at f next)) else statements_at f next) variables runs ∷ below)

    loop_by : (r : Found Bool) → (r >>= of_loop) ≡ chosen f r body next variables below
    loop_by (Ok true) =
        ap (λ ss. goes_on (call ss variables runs ∷ below))
        (sym (ap (stmts_map (name_at f.names)) on ∙ map_and_then (name_at f.names) a here ∙ ap (and_then (stmts_map (name_at f.names) a)) is))
    loop_by (Ok false) = refl
    loop_by (Err why) = refl

    loop_of : (found : Found PlainValue) → (found >>= λ v. as_truth v >>= of_loop) ≡ chosen f (truth_found found) body next variables below
    loop_of (Ok v) = loop_by (as_truth v)
    loop_of (Err why) = refl

  pub branched : (e : PlainExpr ℕ) (at first second : ℕ) → FollowsIf (left f.body) e first second (left f.body at) →
      call_step p self (statements_at f at) variables below ≡ chosen f (holds (value_of variables) (expr_map (name_at f.names) e)) first second variables below
  branched e at first second h =
      at_statement at (if_so e h.a h.b) h.k h.is
      ∙ choice_of h.a h.b h.k first second h.on_holds h.on_fails (evaluate (value_of variables) (expr_map (name_at f.names) e))

  pub looped : (e : PlainExpr ℕ) (at body next : ℕ) → FollowsWhile (left f.body) e body next (left f.body at) →
      call_step p self (statements_at f at) variables below ≡ chosen f (holds (value_of variables) (expr_map (name_at f.names) e)) body next variables below
  looped e at body next h =
      at_statement at (while_so e h.a) (left f.body next) h.is
      ∙ loop_of (stmt_map (name_at f.names) (while_so e h.a)) h.a (left f.body at) body next h.on_body (ap (stmts_map (name_at f.names)) h.is)
      (evaluate (value_of variables) (expr_map (name_at f.names) e))

-- what an instruction did, as what the statements left at its place say
pub moves_at : (p : List (PlainItem ℕ)) (self : ℕ) (f : PlainItem ℕ) (variables : Variables) (below : Term) (r : Result Action Stop) (new : Call) (at : ℕ) (s : PlainStmt ℕ) (k : PlainStmts ℕ) →
    left f.body at ≡ stmts_and s k →
    Moves p f r new below (statement_step (text_of p) self (stmt_map (name_at f.names) s) (stmts_map (name_at f.names) k) variables below) →
    Moves p f r new below (call_step (text_of p) self (statements_at f at) variables below)
moves_at p self f variables below r new at s k is m = subst (Moves p f r new below) (sym (at_statement (text_of p) self f variables below at s k is)) m

-- the same of a step that goes on
pub steps_at : {A : Type 0} → (p : Program) (self : ℕ) (f : PlainItem ℕ) (variables : Variables) (below : Term) (r : Result A Stop) (old new : Call) (at : ℕ) (s : PlainStmt ℕ) (k : PlainStmts ℕ) →
    left f.body at ≡ stmts_and s k →
    StepsOn f r old new below (statement_step p self (stmt_map (name_at f.names) s) (stmts_map (name_at f.names) k) variables below) →
    StepsOn f r old new below (call_step p self (statements_at f at) variables below)
steps_at p self f variables below r old new at s k is m = subst (StepsOn f r old new below) (sym (at_statement p self f variables below at s k is)) m

pub chosen_at : {A : Type 0} → (p : Program) (self : ℕ) (f : PlainItem ℕ) (variables : Variables) (below : Term) (r : Result A Stop) (old new : Call) (at : ℕ) (e : PlainExpr ℕ) (first second : ℕ) →
    FollowsIf (left f.body) e first second (left f.body at) →
    StepsOn f r old new below (chosen f (holds (value_of variables) (expr_map (name_at f.names) e)) first second variables below) →
    StepsOn f r old new below (call_step p self (statements_at f at) variables below)
chosen_at p self f variables below r old new at e first second h m = subst (StepsOn f r old new below) (sym (branched p self f variables below e at first second h)) m

pub looped_at : {A : Type 0} → (p : Program) (self : ℕ) (f : PlainItem ℕ) (variables : Variables) (below : Term) (r : Result A Stop) (old new : Call) (at : ℕ) (e : PlainExpr ℕ) (body next : ℕ) →
    FollowsWhile (left f.body) e body next (left f.body at) →
    StepsOn f r old new below (chosen f (holds (value_of variables) (expr_map (name_at f.names) e)) body next variables below) →
    StepsOn f r old new below (call_step p self (statements_at f at) variables below)
looped_at p self f variables below r old new at e body next h m = subst (StepsOn f r old new below) (sym (looped p self f variables below e at body next h)) m
