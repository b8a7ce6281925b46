-- One step of a thread.
use Rattle.std.specs.Prelude.{ℕ, Bool, true, false, nat_lt, if◌then◌else◌, List, [], ◌∷◌, length, Option, Some, None, Ok, Err}
use Rattle.cml_value.specs.Value.{PlainValue, unit, thread, PlainFunction, function, PlainEvent, values}
use Rattle.cml_value.specs.Limits.{event_fits}
use Rattle.cml_group.specs.Force.{PlainNeed, calls, needs_nack, unforced, replaced}
use Rattle.cml_check.specs.declared.syntax.Act.{Act}
use Rattle.cml_check.specs.declared.syntax.Act.TheVariants as act_of
use Rattle.cml_check.specs.declared.syntax.ActOnOne.{ActOnOne}
use Rattle.cml_check.specs.declared.syntax.ActOnOne.TheVariants as one_of
use Rattle.cml_check.specs.declared.syntax.ActOnTwo.{ActOnTwo}
use Rattle.cml_check.specs.declared.syntax.ActOnTwo.TheVariants as two_of
use Rattle.cml_check.specs.Syntax.{PlainEffect, act, act_on_one, act_on_two, PlainSource, value, effect, Name}
use Rattle.cml_check.specs.Syntax.{PlainStmt, let_be, set_to, just_do, if_so, while_so, return_with, PlainStmts, no_stmts, stmts_and}
use Rattle.cml_check.specs.Layout.{and_then}
use Rattle.cml_check.specs.Syntax as syntax
use Rattle.cml_step.specs.declared.fault.Fault.{Fault}
use Rattle.cml_step.specs.declared.fault.Fault.TheVariants.{Deep, Stack}
use Rattle.cml_step.specs.Faults.{Found}
use Rattle.cml_step.specs.Kinds.{as_truth, as_event, as_ivar, as_mvar, as_mailbox, as_mchan, as_port}
use Rattle.cml_step.specs.Variables.{Variables, value_of, assigned}
use Rattle.cml_step.specs.Evaluate.{evaluate, evaluate_all}
use Rattle.cml_step.specs.Terms.{Program, PlainWait, runs, drops, gives, StackEntry, call, force, wraps, Term, max_entries, call_of}
use Rattle.cml_step.specs.Asks as ask
use Rattle.cml_step.specs.Asks.{PlainAsk}
use Rattle.cml_step.specs.Forced.{group_of, with_argument}

-- what a step comes to: what the thread asks, and its term
pub record PlainStep : Type 0 where
  pub ask : PlainAsk
  pub term : Term

abbrev pub goes_on : Term → PlainStep
goes_on term = record { ask = ask.nothing; term = term }

abbrev pub asks : PlainAsk → Term → PlainStep
asks what term = record { ask = what; term = term }

abbrev pub ends : PlainStep
ends = record { ask = ask.end; term = [] }

abbrev pub fails : Fault → PlainStep
fails why = record { ask = ask.fault why; term = [] }

-- a fault in a part of a step ends the thread
infixl 10 ◌>>=◌
abbrev pub ◌>>=◌ : {A : Type 0} → Found A → (A → PlainStep) → PlainStep
(Ok x) >>= go = go x
(Err why) >>= go = fails why

abbrev pub is_below_limit : Term → Bool
is_below_limit term = nat_lt (length term) max_entries

abbrev pub pushed : StackEntry → Term → PlainStep
pushed entry term = if is_below_limit term then goes_on (entry ∷ term) else fails Stack

-- the variables once the value that was waited for has come
abbrev pub filled : PlainWait → PlainValue → Variables → Variables
filled (gives x) v variables = assigned variables x v
filled wait v variables = variables

-- The event, once what a guard's or a withNack's function returned stands in its place: within the limits it is forced further, else the
-- fault is `deep`.
abbrev pub forced_on : PlainEvent → Term → PlainStep
forced_on e below = if event_fits e then goes_on (force e false ∷ below) else fails Deep

-- A value is delivered to what waits beneath: a call, an event that is being forced, or wraps in progress. With nothing beneath the
-- thread has ended.
abbrev pub delivered : PlainValue → Term → PlainStep
delivered v [] = ends
delivered v (call left variables wait ∷ below) = goes_on (call left (filled wait v variables) runs ∷ below)
delivered v (force e asked ∷ below) = do
  new ← as_event v
  forced_on (replaced new e) below
delivered v (wraps fs w ∷ below) = goes_on (wraps fs v ∷ below)

-- an effect without a value; the thread's own number is known, so `self` asks nothing
abbrev pub act_step : ℕ → Act → Term → PlainStep
act_step self act_of.Chan term = asks ask.make_chan term
act_step self act_of.SwapChan term = asks ask.make_swap term
act_step self act_of.IVar term = asks ask.make_ivar term
act_step self act_of.MVar term = asks (ask.make_mvar None) term
act_step self act_of.Mailbox term = asks ask.make_mailbox term
act_step self act_of.Mchan term = asks ask.make_mchan term
act_step self act_of.Exit term = ends
act_step self act_of.Yield term = asks ask.yield term
act_step self act_of.OwnThread term = delivered (thread self) term
act_step self act_of.Now term = asks ask.now term

abbrev pub one_step : ActOnOne → PlainValue → Term → PlainStep
one_step one_of.Sync v term = do
  e ← as_event v
  pushed (force e false) term
one_step one_of.MVar v term = asks (ask.make_mvar (Some v)) term
one_step one_of.Port v term = do
  x ← as_mchan v
  asks (ask.make_port x) term
one_step one_of.Copy v term = do
  p ← as_port v
  asks (ask.copy_port p) term
one_step one_of.Print v term = asks (ask.print v) term

abbrev pub two_step : ActOnTwo → PlainValue → PlainValue → Term → PlainStep
two_step two_of.IPut v w term = do
  i ← as_ivar v
  asks (ask.iput i w) term
two_step two_of.MPut v w term = do
  m ← as_mvar v
  asks (ask.mput m w) term
two_step two_of.Mail v w term = do
  b ← as_mailbox v
  asks (ask.mail b w) term
two_step two_of.Multicast v w term = do
  x ← as_mchan v
  asks (ask.multicast x w) term

-- an effect of the thread of this number, where the call that waits for its answer is already on top of the term
abbrev pub effect_step : Program → ℕ → Variables → PlainEffect Name → Term → PlainStep
effect_step p self variables (act a) term = act_step self a term
effect_step p self variables (act_on_one a e) term = do
  v ← evaluate (value_of variables) e
  one_step a v term
effect_step p self variables (act_on_two a d e) term = do
  v ← evaluate (value_of variables) d
  w ← evaluate (value_of variables) e
  two_step a v w term
effect_step p self variables (syntax.call f es) term = do
  vs ← evaluate_all (value_of variables) es
  pushed (call_of p (function f (values vs))) term
effect_step p self variables (syntax.spawn f es) term = do
  vs ← evaluate_all (value_of variables) es
  asks (ask.spawn (function f (values vs))) term

abbrev pub source_step : Program → ℕ → Name → PlainSource Name → PlainStmts Name → Variables → Term → PlainStep
source_step p self x (value e) left variables below = do
  v ← evaluate (value_of variables) e
  goes_on (call left (assigned variables x v) runs ∷ below)
source_step p self x (effect f) left variables below = effect_step p self variables f (call left variables (gives x) ∷ below)

-- the first of a call's statements, where these are left after it
abbrev pub statement_step : Program → ℕ → PlainStmt Name → PlainStmts Name → Variables → Term → PlainStep
statement_step p self (let_be x source) left variables below = source_step p self x source left variables below
statement_step p self (set_to x e) left variables below = source_step p self x (value e) left variables below
statement_step p self (just_do f) left variables below = effect_step p self variables f (call left variables drops ∷ below)
statement_step p self (if_so e a b) left variables below = do
  v ← evaluate (value_of variables) e
  holds ← as_truth v
  goes_on (call (and_then (if holds then a else b) left) variables runs ∷ below)
statement_step p self (while_so e a) left variables below = do
  v ← evaluate (value_of variables) e
  holds ← as_truth v
  goes_on (call (if holds then and_then a (stmts_and (while_so e a) left) else left) variables runs ∷ below)
statement_step p self (return_with e) left variables below = do
  v ← evaluate (value_of variables) e
  delivered v below

-- a call without statements left returns unit
abbrev pub call_step : Program → ℕ → PlainStmts Name → Variables → Term → PlainStep
call_step p self no_stmts variables below = delivered unit below
call_step p self (stmts_and s left) variables below = statement_step p self s left variables below

-- The leftmost outermost of the guards and withNacks is next: a guard's function is called, a withNack's needs a fresh nack, for which it
-- asks only where there is room for the call on the stack. With neither left the thread asks to synchronize on the event.
abbrev pub force_step : Program → Option PlainNeed → PlainEvent → Term → PlainStep
force_step p (Some (calls f)) e below = pushed (call_of p f) (force e false ∷ below)
force_step p (Some (needs_nack f)) e below = if is_below_limit (force e false ∷ below) then asks ask.fresh_nack (force e true ∷ below) else fails Stack
force_step p None e below = asks (ask.sync (group_of e)) (force e true ∷ below)

-- the functions of wraps are called one after the other, each with its captured values and the value that has come so far
abbrev pub wraps_step : Program → List PlainFunction → PlainValue → Term → PlainStep
wraps_step p [] v below = delivered v below
wraps_step p (f ∷ fs) v below = pushed (call_of p (with_argument f v)) (wraps fs v ∷ below)

-- A step of the thread of this number. A thread that waits for an answer stays as it is, and one that has ended ends again.
abbrev pub next : Program → ℕ → Term → PlainStep
next p self (call left variables runs ∷ below) = call_step p self left variables below
next p self (force e false ∷ below) = force_step p (unforced e) e below
next p self (wraps fs v ∷ below) = wraps_step p fs v below
next p self [] = ends
next p self term = goes_on term
