-- No thread's stack has more than 1,024 entries.
use Rattle.std.proofs.Common.{◌≡◌, ℕ, zero, suc, ◌+◌, ◌≤◌, ◌<◌, Bool, true, false, if◌then◌else◌, nat_lt, List, [], ◌∷◌, length, refl, sym, ◌∙◌, subst, arith, Option, Some, None, Ok, Err, slice_get}
use Rattle.std.proofs.lemmas.Bool.Decides.{nat_tests}
use Rattle.cml_value.specs.Value.{PlainValue, unit, thread, PlainFunction, function, PlainEvent, values}
use Rattle.cml_value.specs.Limits.{event_fits}
use Rattle.cml_group.specs.Force.{PlainNeed, calls, needs_nack, unforced, replaced}
use Rattle.cml_check.specs.declared.syntax.Act.{Act}
use Rattle.cml_check.specs.declared.syntax.Act.TheVariants as act_of
use Rattle.cml_check.specs.declared.syntax.ActOnOne.{ActOnOne}
use Rattle.cml_check.specs.declared.syntax.ActOnOne.TheVariants as one_of
use Rattle.cml_check.specs.declared.syntax.ActOnTwo.{ActOnTwo}
use Rattle.cml_check.specs.declared.syntax.ActOnTwo.TheVariants as two_of
use Rattle.cml_check.specs.Syntax.{PlainEffect, act, act_on_one, act_on_two, PlainSource, value, effect, Name}
use Rattle.cml_check.specs.Syntax.{PlainItem, PlainStmt, let_be, set_to, just_do, if_so, while_so, return_with, PlainStmts, no_stmts, stmts_and}
use Rattle.cml_check.specs.Syntax as syntax
use Rattle.cml_step.specs.declared.fault.Fault.{Fault}
use Rattle.cml_step.specs.declared.fault.Fault.TheVariants.{Deep, Stack}
use Rattle.cml_step.specs.declared.call.Wait.{Wait}
use Rattle.cml_step.specs.declared.call.Wait.TheVariants as wait
use Rattle.cml_step.specs.Faults.{Found}
use Rattle.cml_step.specs.Kinds.{as_truth, as_event, as_ivar, as_mvar, as_mailbox, as_mchan, as_port}
use Rattle.cml_step.specs.Variables.{Variables, value_of}
use Rattle.cml_step.specs.Evaluate.{evaluate, evaluate_all}
use Rattle.cml_step.specs.Terms.{Program, runs, drops, gives, StackEntry, call, force, wraps, Term, max_entries, call_of}
use Rattle.cml_step.specs.Asks as ask
use Rattle.cml_step.specs.Asks.{PlainAsk, PlainAnswer, a_value, a_nack, a_commit}
use Rattle.cml_step.specs.AnswerViews.{Awaits}
use Rattle.cml_step.specs.Calls.{placed_in, text_of}
use Rattle.cml_step.specs.Forced.{with_argument}
use Rattle.cml_step.specs.Answers as await
use Rattle.cml_step.specs.Answers.{top_await, awaited_by, await_of, answer_for, after_answer, with_nack_number, entries_to_come, IsShort}
use Rattle.cml_step.specs.Machines.{PlainHeld, PlainMachine, held_entry, held_on, machine_term, AllHeldFit, Fits}
use Rattle.cml_step.specs.Machines as held
use Rattle.cml_step.specs.Steps.{PlainStep, goes_on, asks, fails, ◌>>=◌, is_below_limit, pushed, delivered}
use Rattle.cml_step.specs.Steps.{act_step, one_step, two_step, effect_step, source_step, statement_step, call_step}
use Rattle.cml_step.specs.Steps.{force_step, wraps_step, next}
use Rattle.cml_step.specs.Slices.{PlainSlice, carried, sliced_from}
use Rattle.cml_step.proofs.AwaitLemmas.{sliced_waits}
use Rattle.cml_step.proofs.AnswerLemmas.{answered_runs}

-- no more than this many, with the entries that the answer puts on the stack
abbrev Short : PlainAsk → Term → Type 0
Short asked t = length t + entries_to_come (await_of asked) ≤ max_entries

abbrev IsShortStep : PlainStep → Type 0
IsShortStep step = Short step.ask step.term

failed : (why : Fault) → IsShortStep (fails why)
failed why = omega arith

bind : {A : Type 0} (r : Found A) (go : A → PlainStep) → ((x : A) → IsShortStep (go x)) → IsShortStep (r >>= go)
bind (Ok x) go h = h x
bind (Err why) go h = failed why

less : (m n : ℕ) → nat_lt m n ≡ true → m < n
less m n h = grind (arith, nat_tests)

if_room : (b : Bool) (e : StackEntry) (t : Term) → is_below_limit t ≡ b → IsShortStep (if b then goes_on (e ∷ t) else fails Stack)
if_room true e t h = omega (arith, less (length t) max_entries h)
if_room false e t h = failed Stack

pushed_short : (e : StackEntry) (t : Term) → IsShortStep (pushed e t)
pushed_short e t = if_room (is_below_limit t) e t refl

if_fits : (b : Bool) (t : Term) → length t ≤ max_entries → IsShortStep (if b then goes_on t else fails Deep)
if_fits true t h = omega (arith, h)
if_fits false t h = failed Deep

delivered_short : (v : PlainValue) (t : Term) → length t ≤ max_entries → IsShortStep (delivered v t)
delivered_short v [] h = omega arith
delivered_short v (call left variables w ∷ below) h = omega (arith, h)
delivered_short v (force e asked ∷ below) h = bind (as_event v) _ (λ new. if_fits (event_fits (replaced new e)) (force (replaced new e) false ∷ below) h)
delivered_short v (wraps fs w ∷ below) h = omega (arith, h)

-- steps with a call that waits on top, which ask for a value
asked_short : (t : Term) → length t ≤ max_entries → length t + 0 ≤ max_entries
asked_short t h = omega (arith, h)

act_short : (self : ℕ) (a : Act) (t : Term) → length t ≤ max_entries → IsShortStep (act_step self a t)
act_short self act_of.Exit t h = omega arith
act_short self act_of.OwnThread t h = delivered_short (thread self) t h
act_short self act_of.Chan t h = asked_short t h
act_short self act_of.SwapChan t h = asked_short t h
act_short self act_of.IVar t h = asked_short t h
act_short self act_of.MVar t h = asked_short t h
act_short self act_of.Mailbox t h = asked_short t h
act_short self act_of.Mchan t h = asked_short t h
act_short self act_of.Yield t h = asked_short t h
act_short self act_of.Now t h = asked_short t h

one_short : (a : ActOnOne) (v : PlainValue) (t : Term) → length t ≤ max_entries → IsShortStep (one_step a v t)
one_short one_of.Sync v t h = bind (as_event v) _ (λ e. pushed_short (force e false) t)
one_short one_of.MVar v t h = asked_short t h
one_short one_of.Port v t h = bind (as_mchan v) _ (λ x. asked_short t h)
one_short one_of.Copy v t h = bind (as_port v) _ (λ x. asked_short t h)
one_short one_of.Print v t h = asked_short t h

two_short : (a : ActOnTwo) (v w : PlainValue) (t : Term) → length t ≤ max_entries → IsShortStep (two_step a v w t)
two_short two_of.IPut v w t h = bind (as_ivar v) _ (λ x. asked_short t h)
two_short two_of.MPut v w t h = bind (as_mvar v) _ (λ x. asked_short t h)
two_short two_of.Mail v w t h = bind (as_mailbox v) _ (λ x. asked_short t h)
two_short two_of.Multicast v w t h = bind (as_mchan v) _ (λ x. asked_short t h)

effect_short : (p : Program) (self : ℕ) (vars : Variables) (f : PlainEffect Name) (t : Term) → length t ≤ max_entries → IsShortStep (effect_step p self vars f t)
effect_short p self vars (act a) t h = act_short self a t h
effect_short p self vars (act_on_one a e) t h = bind (evaluate (value_of vars) e) _ (λ v. one_short a v t h)
effect_short p self vars (act_on_two a d e) t h = bind (evaluate (value_of vars) d) _ (λ v. bind (evaluate (value_of vars) e) _ (λ w. two_short a v w t h))
effect_short p self vars (syntax.call f es) t h = bind (evaluate_all (value_of vars) es) _ (λ vs. pushed_short (call_of p (function f (values vs))) t)
effect_short p self vars (syntax.spawn f es) t h = bind (evaluate_all (value_of vars) es) _ (λ vs. asked_short t h)

-- a step of a call above these entries
source_short : (p : Program) (self : ℕ) (x : Name) (s : PlainSource Name) (left : PlainStmts Name) (vars : Variables)
    (t : Term) → length t < max_entries → IsShortStep (source_step p self x s left vars t)
source_short p self x (value e) left vars t h = bind (evaluate (value_of vars) e) _ (λ v. omega (arith, h))
source_short p self x (effect f) left vars t h = effect_short p self vars f (call left vars (gives x) ∷ t) (omega (arith, h))

statement_short : (p : Program) (self : ℕ) (s : PlainStmt Name) (left : PlainStmts Name) (vars : Variables) (t : Term) → length t < max_entries → IsShortStep (statement_step p self s left vars t)
statement_short p self (let_be x s) left vars t h = source_short p self x s left vars t h
statement_short p self (set_to x e) left vars t h = source_short p self x (value e) left vars t h
statement_short p self (just_do f) left vars t h = effect_short p self vars f (call left vars drops ∷ t) (omega (arith, h))
statement_short p self (if_so e a b) left vars t h = bind (evaluate (value_of vars) e) _ (λ v. bind (as_truth v) _ (λ holds. omega (arith, h)))
statement_short p self (while_so e a) left vars t h = bind (evaluate (value_of vars) e) _ (λ v. bind (as_truth v) _ (λ holds. omega (arith, h)))
statement_short p self (return_with e) left vars t h = bind (evaluate (value_of vars) e) _ (λ v. delivered_short v t (omega (arith, h)))

call_short : (p : Program) (self : ℕ) (ss : PlainStmts Name) (vars : Variables) (t : Term) → length t < max_entries → IsShortStep (call_step p self ss vars t)
call_short p self no_stmts vars t h = delivered_short unit t (omega (arith, h))
call_short p self (stmts_and s left) vars t h = statement_short p self s left vars t h

-- a step of an event that is being forced: one that asks for a nack leaves room for a call
if_asked : (b : Bool) (e : PlainEvent) (t : Term) → is_below_limit (force e false ∷ t) ≡ b → IsShortStep (if b then asks ask.fresh_nack (force e true ∷ t) else fails Stack)
if_asked true e t h = omega (arith, less (length (force e false ∷ t)) max_entries h)
if_asked false e t h = failed Stack

force_short : (p : Program) (o : Option PlainNeed) (e : PlainEvent) (t : Term) → length t < max_entries → IsShortStep (force_step p o e t)
force_short p (Some (calls f)) e t h = pushed_short (call_of p f) (force e false ∷ t)
force_short p (Some (needs_nack f)) e t h = if_asked (is_below_limit (force e false ∷ t)) e t refl
force_short p None e t h = omega (arith, h)

wraps_short : (p : Program) (fs : List PlainFunction) (v : PlainValue) (t : Term) → length t < max_entries → IsShortStep (wraps_step p fs v t)
wraps_short p [] v t h = delivered_short v t (omega (arith, h))
wraps_short p (f ∷ fs) v t h = pushed_short (call_of p (with_argument f v)) (wraps fs v ∷ t)

next_short : (p : Program) (self : ℕ) (t : Term) → length t ≤ max_entries → IsShortStep (next p self t)
next_short p self [] h = omega arith
next_short p self (call left vars runs ∷ below) h = call_short p self left vars below (omega (arith, h))
next_short p self (call left vars drops ∷ below) h = omega (arith, h)
next_short p self (call left vars (gives x) ∷ below) h = omega (arith, h)
next_short p self (force e false ∷ below) h = force_short p (unforced e) e below (omega (arith, h))
next_short p self (force e true ∷ below) h = omega (arith, h)
next_short p self (wraps fs v ∷ below) h = wraps_short p fs v below (omega (arith, h))

carried_short : (go : Term → PlainSlice) (n : ℕ) (a : PlainAsk) (t : Term) → Short a t
    → ((u : Term) → length u ≤ max_entries → Short (go u).ask (go u).end)
    → Short (carried go n a t).ask (carried go n a t).end
carried_short go n ask.nothing t h g = g t (omega (arith, h))
carried_short go n _ t h g = h

-- a slice
sliced_ends : (p : Program) (self k n : ℕ) (t : Term) → length t ≤ max_entries → Short (sliced_from p self k n t).ask (sliced_from p self k n t).end
unfolding sliced_from
sliced_ends p self zero n t h = omega (arith, h)
sliced_ends p self (suc k) n t h = carried_short (λ u. sliced_from p self k (n + 1) u) (n + 1) (next p self t).ask
    (next p self t).term (next_short p self t h) (λ u g. sliced_ends p self k (n + 1) u g)

pub sliced_short : (p : Program) (self k n : ℕ) (t : Term) → top_await t ≡ await.nothing → length t ≤ max_entries → IsShort (sliced_from p self k n t).end
sliced_short p self k n t w h =
    subst (λ a. length (sliced_from p self k n t).end + entries_to_come a ≤ max_entries) (sym (sliced_waits p self k n t w)) (sliced_ends p self k n t h)

-- a short stack has few entries, and one of few entries that waits for nothing is short
pub short_few : (t : Term) → IsShort t → length t ≤ max_entries
short_few t h = omega (arith, h)

pub few_short : (t : Term) → top_await t ≡ await.nothing → length t ≤ max_entries → IsShort t
few_short t w h = subst (λ a. length t + entries_to_come a ≤ max_entries) (sym w) (omega (arith, h))

-- an answered thread
nack_few : (p : Program) (k : ℕ) (o : Option PlainNeed) (e : PlainEvent) (t : Term) → awaited_by o ≡ await.nack → length t + 1 < max_entries → length (with_nack_number p k o e t) ≤ max_entries
nack_few p k (Some (calls f)) e t h l = absurd (cc)
nack_few p k (Some (needs_nack f)) e t h l = omega (arith, l)
nack_few p k None e t h l = absurd (cc)

room_for_nack : (e : PlainEvent) (t : Term) → IsShort (force e true ∷ t) → awaited_by (unforced e) ≡ await.nack → length t + 1 < max_entries
room_for_nack e t h w = let l : length (force e true ∷ t) + 1 ≤ max_entries = subst (λ a. length (force e true ∷ t) + entries_to_come a ≤ max_entries) w h in omega (arith, l)

answered_few : (p : Program) (a : PlainAnswer) (t : Term) → IsShort t → top_await t ≡ answer_for a → length (after_answer p a t) ≤ max_entries
answered_few p (a_value v) [] h w = omega arith
answered_few p (a_value v) (call left variables x ∷ below) h w = short_few (call left variables x ∷ below) h
answered_few p (a_value v) (force e asked ∷ below) h w = short_few (force e asked ∷ below) h
answered_few p (a_value v) (wraps fs x ∷ below) h w = short_few (wraps fs x ∷ below) h
answered_few p (a_nack k) [] h w = omega arith
answered_few p (a_nack k) (call left variables x ∷ below) h w = short_few (call left variables x ∷ below) h
answered_few p (a_nack k) (force e true ∷ below) h w = nack_few p k (unforced e) e below w (room_for_nack e below h w)
answered_few p (a_nack k) (force e false ∷ below) h w = absurd (cc)
answered_few p (a_nack k) (wraps fs x ∷ below) h w = short_few (wraps fs x ∷ below) h
answered_few p (a_commit v gs) [] h w = omega arith
answered_few p (a_commit v gs) (call left variables x ∷ below) h w = short_few (call left variables x ∷ below) h
answered_few p (a_commit v gs) (force e asked ∷ below) h w = short_few (force e asked ∷ below) h
answered_few p (a_commit v gs) (wraps fs x ∷ below) h w = short_few (wraps fs x ∷ below) h

pub answered_short : (p : Program) (a : PlainAnswer) (t : Term) → IsShort t → top_await t ≡ answer_for a → IsShort (after_answer p a t)
answered_short p a t h w = few_short (after_answer p a t) (answered_runs p a t w) (answered_few p a t h w)

-- what a machine waits for, and how many entries it has, is the same under each program
wait_awaits : (o : Option (PlainItem ℕ)) (at : ℕ) (slots : List PlainValue) (w : Wait) (t : Term) → (u : Option (PlainItem ℕ)) (s : Term) →
    top_await (placed_in o at slots w ∷ t) ≡ top_await (placed_in u at slots w ∷ s)
wait_awaits (Some f) at slots wait.Runs t (Some g) s = refl
wait_awaits (Some f) at slots wait.Runs t None s = refl
wait_awaits (Some f) at slots wait.Drops t (Some g) s = refl
wait_awaits (Some f) at slots wait.Drops t None s = refl
wait_awaits (Some f) at slots (wait.Gives n) t (Some g) s = refl
wait_awaits (Some f) at slots (wait.Gives n) t None s = refl
wait_awaits None at slots wait.Runs t (Some g) s = refl
wait_awaits None at slots wait.Runs t None s = refl
wait_awaits None at slots wait.Drops t (Some g) s = refl
wait_awaits None at slots wait.Drops t None s = refl
wait_awaits None at slots (wait.Gives n) t (Some g) s = refl
wait_awaits None at slots (wait.Gives n) t None s = refl

entry_awaits : (p q : List (PlainItem ℕ)) (h : PlainHeld) (t s : Term) → top_await (held_entry p h ∷ t) ≡ top_await (held_entry q h ∷ s)
entry_awaits p q (held.call f at slots w) t s = wait_awaits (slice_get p f) at slots w t (slice_get q f) s
entry_awaits p q (held.force e true) t s = refl
entry_awaits p q (held.force e false) t s = refl
entry_awaits p q (held.wraps fs v) t s = refl

held_awaits : (p q : List (PlainItem ℕ)) (hs : List PlainHeld) (t s : Term) → top_await t ≡ top_await s → top_await (held_on p hs t) ≡ top_await (held_on q hs s)
held_awaits p q [] t s h = h
held_awaits p q (x ∷ hs) t s h = held_awaits p q hs (held_entry p x ∷ t) (held_entry q x ∷ s) (entry_awaits p q x t s)

pub machine_awaits : (p q : List (PlainItem ℕ)) (m : PlainMachine) → top_await (machine_term p m) ≡ top_await (machine_term q m)
machine_awaits p q m = held_awaits p q m.stack [] [] refl

held_length : (p : List (PlainItem ℕ)) (hs : List PlainHeld) (t : Term) → length (held_on p hs t) ≡ length hs + length t
held_length p [] t = omega arith
held_length p (h ∷ hs) t = omega (arith, held_length p hs (held_entry p h ∷ t))

pub machine_length : (p : List (PlainItem ℕ)) (m : PlainMachine) → length m.stack ≡ length (machine_term p m)
machine_length p m = omega (arith, held_length p m.stack [])

-- an answered machine fits, where its entries do
pub answered_fits : (p : List (PlainItem ℕ)) (m n : PlainMachine) (a : PlainAnswer) → Fits p m → Awaits m a
    → machine_term p n ≡ after_answer (text_of p) a (machine_term p m) → AllHeldFit p n.stack → Fits p n
answered_fits p m n a h w e s = record {
  order = h.order;
  stack = s;
  short = subst IsShort (sym e) (answered_short (text_of p) a (machine_term p m) h.short (machine_awaits p w.0 m ∙ w.2));
}
