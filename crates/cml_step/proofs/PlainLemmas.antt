-- Steps that set a slot to a number, or test numbers.
use Rattle.std.specs.Prelude.{if◌then◌else◌}
use Rattle.std.proofs.Common.{◌≡◌, ℕ, ◌<◌, ◌⊎◌, inl, inr, Bool, true, false, nat_lt, List, ◌∷◌, length, set, refl, ap, sym, ◌∙◌, subst, arith, Ok}
use Rattle.cml_value.specs.Value.{PlainValue, truth}
use Rattle.cml_check.specs.Syntax.{PlainExpr, expr_map, name_at, PlainItem, let_be, set_to, value}
use Rattle.cml_check.specs.Names.{AreDistinct}
use Rattle.cml_check.specs.InOrder.{expr_fits}
use Rattle.cml_check.specs.Layout.{left}
use Rattle.cml_check.specs.Ops.{Sets, Tests}
use Rattle.cml_step.specs.declared.call.Call.{Call}
use Rattle.cml_step.specs.declared.call.Wait.{Wait}
use Rattle.cml_step.specs.declared.call.Wait.TheVariants as wait
use Rattle.cml_step.specs.Agrees.{all_agree, value_agrees}
use Rattle.cml_step.specs.Calls.{call_at, statements_at, chosen, RunsOn}
use Rattle.cml_step.specs.Evaluate.{evaluate}
use Rattle.cml_step.specs.Plain.{running, PassesTo, RunsTo}
use Rattle.cml_step.specs.Slices.{GoesIn}
use Rattle.cml_step.specs.Steps.{◌>>=◌, goes_on, source_step}
use Rattle.cml_step.specs.Terms.{Program, Term, call, runs}
use Rattle.cml_step.specs.Variables.{bound, value_of, assigned, slot_value}
use Rattle.cml_step.proofs.CallLemmas.{agree_set, at_statement, branched, looped, tested}
use Rattle.cml_step.proofs.VariableLemmas.{bound_set, evaluate_named}

module _ (f : PlainItem ℕ) (fs : List ℕ) (at : ℕ) (vs : List PlainValue) (d : AreDistinct f.names) (e : PlainExpr ℕ) (fits : expr_fits fs (length f.names) e ≡ true) where
  set_step : (p : Program) (self slot to : ℕ) (v : PlainValue) (below : Term) → slot < length f.names → slot < length vs → evaluate (slot_value vs) e ≡ Ok v →
      source_step p self (name_at f.names slot) (value (expr_map (name_at f.names) e)) (statements_at f to) (bound f.names vs) below ≡ goes_on (running f to (set vs slot v) ∷ below)
  set_step p self slot to v below named there is =
      ap (λ r. r >>= (λ w. goes_on (call (statements_at f to) (assigned (bound f.names vs) (name_at f.names slot) w) runs ∷ below))) (evaluate_named f.names vs d fs e fits ∙ is)
      ∙ ap (λ ws. goes_on (call (statements_at f to) ws runs ∷ below)) (bound_set f.names vs slot v d named there)

  -- a slot that is set
  pub number_set : (slot to : ℕ) (v : PlainValue) (ws : List PlainValue) → Sets (left f.body) slot e to (left f.body at) → slot < length f.names → slot < length vs →
      evaluate (slot_value vs) e ≡ Ok v → ws ≡ set vs slot v → PassesTo f at vs to ws
  number_set slot to v ws (inl h) named there is same = λ p self below.
      at_statement p self f (bound f.names vs) below at (let_be slot (value e)) (left f.body to) h
      ∙ set_step p self slot to v below named there is ∙ ap (λ xs. goes_on (running f to xs ∷ below)) (sym same)
  number_set slot to v ws (inr h) named there is same = λ p self below.
      at_statement p self f (bound f.names vs) below at (set_to slot e) (left f.body to) h
      ∙ set_step p self slot to v below named there is ∙ ap (λ xs. goes_on (running f to xs ∷ below)) (sym same)

  -- a test
  number_tested : (first second : ℕ) (b : Bool) → Tests (left f.body) e first second (left f.body at) → evaluate (slot_value vs) e ≡ Ok (truth b) →
      PassesTo f at vs (if b then first else second) vs
  number_tested first second b (inl h) is = λ p self below.
      let of = value_of (bound f.names vs) in
      branched p self f (bound f.names vs) below e at first second h
      ∙ ap (λ r. chosen f r first second (bound f.names vs) below) (tested of (expr_map (name_at f.names) e) (truth b) (Ok b) (evaluate_named f.names vs d fs e fits ∙ is) refl)
  number_tested first second b (inr h) is = λ p self below.
      let of = value_of (bound f.names vs) in
      looped p self f (bound f.names vs) below e at first second h
      ∙ ap (λ r. chosen f r first second (bound f.names vs) below) (tested of (expr_map (name_at f.names) e) (truth b) (Ok b) (evaluate_named f.names vs d fs e fits ∙ is) refl)

  pub number_holds : (first second : ℕ) (b : Bool) → Tests (left f.body) e first second (left f.body at) → evaluate (slot_value vs) e ≡ Ok (truth b) → b ≡ true → PassesTo f at vs first vs
  number_holds first second b h is on = subst (λ t. PassesTo f at vs (if t then first else second) vs) on (number_tested first second b h is)

  pub number_fails : (first second : ℕ) (b : Bool) → Tests (left f.body) e first second (left f.body at) → evaluate (slot_value vs) e ≡ Ok (truth b) → b ≡ false → PassesTo f at vs second vs
  number_fails first second b h is off = subst (λ t. PassesTo f at vs (if t then first else second) vs) off (number_tested first second b h is)

-- a slot that the function has
pub slot_there : (x n : ℕ) → nat_lt x n ≡ true → x < n
slot_there x n h = grind (arith, h)

-- a slot that is set to a value that agrees, among values that agree
pub number_agrees : (fs : List ℕ) (vs ws : List PlainValue) (slot : ℕ) (v : PlainValue) → ws ≡ set vs slot v → value_agrees fs v ≡ true → all_agree fs vs ≡ true → all_agree fs ws ≡ true
number_agrees fs vs ws slot v same g h = ap (all_agree fs) same ∙ agree_set fs vs slot v h g

-- a call that runs on, and then on
pub runs_on : {fs : List ℕ} {old mid new : Call} → RunsOn fs old mid → RunsOn fs mid new → RunsOn fs old new
runs_on a b = record { agree = b.agree; runs = b.runs; same = b.same ∙ a.same }

-- the steps of a call that runs, of whose slots as a slice they were made
pub runs_to : (n : ℕ) (f : PlainItem ℕ) (w : Wait) (at : ℕ) (vs us : List PlainValue) (to : ℕ) (ws xs : List PlainValue) → w ≡ wait.Runs → us ≡ vs → xs ≡ ws → RunsTo n f at us to ws →
    (p : Program) (self : ℕ) (below : Term) → GoesIn p self n (call_at f at vs w ∷ below) (call_at f to xs w ∷ below)
runs_to n f w at vs us to ws xs run same back goes = λ p self below.
    subst (λ (x : Wait). GoesIn p self n (call_at f at vs x ∷ below) (call_at f to xs x ∷ below)) (sym run)
    (subst (λ (ys : List PlainValue). GoesIn p self n (running f at vs ∷ below) (running f to ys ∷ below)) (sym back)
    (subst (λ (ys : List PlainValue). GoesIn p self n (running f at ys ∷ below) (running f to ws ∷ below)) same (goes p self below)))
