-- A thread that has asked waits for the answer to what it asks, and else for nothing.
use Rattle.std.proofs.Common.{◌≡◌, ℕ, zero, suc, ◌+◌, Bool, true, false, if◌then◌else◌, List, [], ◌∷◌, refl, ap, Option, Some, None, Ok, Err, slice_get}
use Rattle.cml_value.specs.Value.{PlainValue, unit, thread, PlainFunction, function, PlainEvent, values}
use Rattle.cml_value.specs.Limits.{event_fits}
use Rattle.cml_group.specs.Force.{PlainNeed, calls, needs_nack, unforced, replaced}
use Rattle.cml_check.specs.declared.syntax.Act.{Act}
use Rattle.cml_check.specs.declared.syntax.Act.TheVariants as act_of
use Rattle.cml_check.specs.declared.syntax.ActOnOne.{ActOnOne}
use Rattle.cml_check.specs.declared.syntax.ActOnOne.TheVariants as one_of
use Rattle.cml_check.specs.declared.syntax.ActOnTwo.{ActOnTwo}
use Rattle.cml_check.specs.declared.syntax.ActOnTwo.TheVariants as two_of
use Rattle.cml_check.specs.Syntax.{PlainEffect, act, act_on_one, act_on_two, PlainSource, value, effect, Name}
use Rattle.cml_check.specs.Syntax.{PlainItem, PlainStmt, let_be, set_to, just_do, if_so, while_so, return_with, PlainStmts, no_stmts, stmts_and}
use Rattle.cml_check.specs.Syntax as syntax
use Rattle.cml_step.specs.Faults.{Found}
use Rattle.cml_step.specs.Kinds.{as_truth, as_event, as_ivar, as_mvar, as_mailbox, as_mchan, as_port}
use Rattle.cml_step.specs.Variables.{Variables, value_of}
use Rattle.cml_step.specs.Evaluate.{evaluate, evaluate_all}
use Rattle.cml_step.specs.Terms.{Program, runs, drops, gives, StackEntry, call, force, wraps, Term, started, call_of}
use Rattle.cml_step.specs.Asks as ask
use Rattle.cml_step.specs.Asks.{PlainAsk}
use Rattle.cml_step.specs.Forced.{with_argument}
use Rattle.cml_step.specs.Answers as await
use Rattle.cml_step.specs.Answers.{PlainAwait, top_await, awaited_by, await_of}
use Rattle.cml_step.specs.Steps.{PlainStep, goes_on, asks, fails, ◌>>=◌, is_below_limit, pushed, delivered}
use Rattle.cml_step.specs.Steps.{act_step, one_step, two_step, effect_step, source_step, statement_step, call_step}
use Rattle.cml_step.specs.Steps.{force_step, wraps_step, next}
use Rattle.cml_step.specs.Slices.{PlainSlice, carried, sliced_from}

abbrev Waits : PlainStep → Type 0
Waits step = top_await step.term ≡ await_of step.ask

bind : {A : Type 0} (r : Found A) (go : A → PlainStep) → ((x : A) → Waits (go x)) → Waits (r >>= go)
bind (Ok x) go h = h x
bind (Err why) go h = refl

if_room : (b : Bool) (t : Term) → top_await t ≡ await.nothing → Waits (if b then goes_on t else fails Rattle.cml_step.specs.declared.fault.Fault.TheVariants.Stack)
if_room true t h = h
if_room false t h = refl

pushed_waits : (e : StackEntry) (t : Term) → top_await (e ∷ t) ≡ await.nothing → Waits (pushed e t)
pushed_waits e t h = if_room (is_below_limit t) (e ∷ t) h

started_runs : (o : Option (PlainItem Name)) (vs : List PlainValue) (t : Term) → top_await (started o vs ∷ t) ≡ await.nothing
started_runs (Some f) vs t = refl
started_runs None vs t = refl

-- a call at its beginning waits for nothing
pub begun_runs : (p : Program) (f : PlainFunction) (t : Term) → top_await (call_of p f ∷ t) ≡ await.nothing
begun_runs p (function f vs) t = started_runs (slice_get p f) _ t

if_fits : (b : Bool) (t : Term) → top_await t ≡ await.nothing → Waits (if b then goes_on t else fails Rattle.cml_step.specs.declared.fault.Fault.TheVariants.Deep)
if_fits true t h = h
if_fits false t h = refl

delivered_waits : (v : PlainValue) (t : Term) → Waits (delivered v t)
delivered_waits v [] = refl
delivered_waits v (call left variables w ∷ below) = refl
delivered_waits v (force e asked ∷ below) = bind (as_event v) _ (λ new. if_fits (event_fits (replaced new e)) (force (replaced new e) false ∷ below) refl)
delivered_waits v (wraps fs w ∷ below) = refl

act_waits : (self : ℕ) (a : Act) (t : Term) → top_await t ≡ await.value → Waits (act_step self a t)
act_waits self act_of.Chan t h = h
act_waits self act_of.SwapChan t h = h
act_waits self act_of.IVar t h = h
act_waits self act_of.MVar t h = h
act_waits self act_of.Mailbox t h = h
act_waits self act_of.Mchan t h = h
act_waits self act_of.Exit t h = refl
act_waits self act_of.Yield t h = h
act_waits self act_of.OwnThread t h = delivered_waits (thread self) t
act_waits self act_of.Now t h = h

one_waits : (a : ActOnOne) (v : PlainValue) (t : Term) → top_await t ≡ await.value → Waits (one_step a v t)
one_waits one_of.Sync v t h = bind (as_event v) _ (λ e. pushed_waits (force e false) t refl)
one_waits one_of.MVar v t h = h
one_waits one_of.Port v t h = bind (as_mchan v) _ (λ x. h)
one_waits one_of.Copy v t h = bind (as_port v) _ (λ x. h)
one_waits one_of.Print v t h = h

two_waits : (a : ActOnTwo) (v w : PlainValue) (t : Term) → top_await t ≡ await.value → Waits (two_step a v w t)
two_waits two_of.IPut v w t h = bind (as_ivar v) _ (λ x. h)
two_waits two_of.MPut v w t h = bind (as_mvar v) _ (λ x. h)
two_waits two_of.Mail v w t h = bind (as_mailbox v) _ (λ x. h)
two_waits two_of.Multicast v w t h = bind (as_mchan v) _ (λ x. h)

effect_waits : (p : Program) (self : ℕ) (vars : Variables) (f : PlainEffect Name) (t : Term) → top_await t ≡ await.value → Waits (effect_step p self vars f t)
effect_waits p self vars (act a) t h = act_waits self a t h
effect_waits p self vars (act_on_one a e) t h = bind (evaluate (value_of vars) e) _ (λ v. one_waits a v t h)
effect_waits p self vars (act_on_two a d e) t h = bind (evaluate (value_of vars) d) _ (λ v. bind (evaluate (value_of vars) e) _ (λ w. two_waits a v w t h))
effect_waits p self vars (syntax.call f es) t h = bind (evaluate_all (value_of vars) es) _ (λ vs. pushed_waits (call_of p (function f (values vs))) t (begun_runs p (function f (values vs)) t))
effect_waits p self vars (syntax.spawn f es) t h = bind (evaluate_all (value_of vars) es) _ (λ vs. h)

source_waits : (p : Program) (self : ℕ) (x : Name) (s : PlainSource Name) (left : PlainStmts Name) (vars : Variables) (t : Term) → Waits (source_step p self x s left vars t)
source_waits p self x (value e) left vars t = bind (evaluate (value_of vars) e) _ (λ v. refl)
source_waits p self x (effect f) left vars t = effect_waits p self vars f (call left vars (gives x) ∷ t) refl

statement_waits : (p : Program) (self : ℕ) (s : PlainStmt Name) (left : PlainStmts Name) (vars : Variables) (t : Term) → Waits (statement_step p self s left vars t)
statement_waits p self (let_be x s) left vars t = source_waits p self x s left vars t
statement_waits p self (set_to x e) left vars t = source_waits p self x (value e) left vars t
statement_waits p self (just_do f) left vars t = effect_waits p self vars f (call left vars drops ∷ t) refl
statement_waits p self (if_so e a b) left vars t = bind (evaluate (value_of vars) e) _ (λ v. bind (as_truth v) _ (λ holds. refl))
statement_waits p self (while_so e a) left vars t = bind (evaluate (value_of vars) e) _ (λ v. bind (as_truth v) _ (λ holds. refl))
statement_waits p self (return_with e) left vars t = bind (evaluate (value_of vars) e) _ (λ v. delivered_waits v t)

call_waits : (p : Program) (self : ℕ) (ss : PlainStmts Name) (vars : Variables) (t : Term) → Waits (call_step p self ss vars t)
call_waits p self no_stmts vars t = delivered_waits unit t
call_waits p self (stmts_and s left) vars t = statement_waits p self s left vars t

if_asked : (b : Bool) (t : Term) → top_await t ≡ await.nack → Waits (if b then asks ask.fresh_nack t else fails Rattle.cml_step.specs.declared.fault.Fault.TheVariants.Stack)
if_asked true t h = h
if_asked false t h = refl

force_waits : (p : Program) (o : Option PlainNeed) (e : PlainEvent) (t : Term) → unforced e ≡ o → Waits (force_step p o e t)
force_waits p (Some (calls f)) e t h = pushed_waits (call_of p f) (force e false ∷ t) (begun_runs p f (force e false ∷ t))
force_waits p (Some (needs_nack f)) e t h = if_asked (is_below_limit (force e false ∷ t)) (force e true ∷ t) (ap awaited_by h)
force_waits p None e t h = ap awaited_by h

wraps_waits : (p : Program) (fs : List PlainFunction) (v : PlainValue) (t : Term) → Waits (wraps_step p fs v t)
wraps_waits p [] v t = delivered_waits v t
wraps_waits p (f ∷ fs) v t = pushed_waits (call_of p (with_argument f v)) (wraps fs v ∷ t) (begun_runs p (with_argument f v) (wraps fs v ∷ t))

next_waits : (p : Program) (self : ℕ) (t : Term) → top_await t ≡ await.nothing → Waits (next p self t)
next_waits p self [] h = refl
next_waits p self (call left vars runs ∷ below) h = call_waits p self left vars below
next_waits p self (call left vars drops ∷ below) h = h
next_waits p self (call left vars (gives x) ∷ below) h = h
next_waits p self (force e false ∷ below) h = force_waits p (unforced e) e below refl
next_waits p self (force e true ∷ below) h = h
next_waits p self (wraps fs v ∷ below) h = wraps_waits p fs v below

abbrev SliceWaits : PlainSlice → Type 0
SliceWaits s = top_await s.end ≡ await_of s.ask

carried_waits : (go : Term → PlainSlice) (n : ℕ) (a : PlainAsk) (t : Term) → top_await t ≡ await_of a → ((u : Term) → top_await u ≡ await.nothing → SliceWaits (go u)) → SliceWaits (carried go n a t)
carried_waits go n ask.nothing t h g = g t h
carried_waits go n _ t h g = h

-- a slice of a thread that waits for nothing
pub sliced_waits : (p : Program) (self k n : ℕ) (t : Term) → top_await t ≡ await.nothing → SliceWaits (sliced_from p self k n t)
unfolding sliced_from
sliced_waits p self zero n t h = h
sliced_waits p self (suc k) n t h = carried_waits (λ u. sliced_from p self k (n + 1) u) (n + 1) (next p self t).ask
    (next p self t).term (next_waits p self t h) (λ u g. sliced_waits p self k (n + 1) u g)
