-- A stack whose thread is answered.
use Rattle.std.proofs.Common.{◌≡◌, ℕ, zero, suc, ◌<◌, Bool, true, false, ◌&&◌, List, [], ◌∷◌, ◌++◌, length, refl, ap, sym, ◌∙◌, subst, arith, Option, Some, None, slice_get, slice_index_or, reverse}
use Rattle.std.proofs.lemmas.List.{reverse-reverse}
use Rattle.std.proofs.lemmas.Bool.{and_parts, and_from}
use mathlib.Core.List.{reverse_aux}
use Rattle.cml_value.specs.Value.{PlainValue, PlainFunction, PlainEvent, guard, scope}
use Rattle.cml_group.specs.Force.{PlainNeed, calls, needs_nack, unforced, replaced, given_nack, AwaitsNack}
use Rattle.cml_check.specs.Syntax.{PlainItem, no_stmts}
use Rattle.cml_check.specs.Names.{AreDistinct}
use Rattle.cml_check.specs.InOrder.{InOrder, arities}
use Rattle.cml_step.specs.declared.call.Wait.{Wait}
use Rattle.cml_step.specs.declared.call.Wait.TheVariants as wait
use Rattle.cml_step.specs.declared.call.Call.{Call}
use Rattle.cml_step.specs.declared.entry.Entry.{Entry}
use Rattle.cml_step.specs.declared.entry.Entry.TheVariants as entry
use Rattle.cml_step.specs.declared.entry.Wraps.{Wraps}
use Rattle.cml_step.specs.Agrees.{value_agrees, event_agrees, function_agrees, functions_agree}
use Rattle.cml_step.specs.Answers as await
use Rattle.cml_step.specs.Answers.{PlainAwait, top_await, awaited_by, answer_for, after_answer, with_nack_number}
use Rattle.cml_step.specs.Asks.{PlainAnswer, a_value, a_nack, a_commit}
use Rattle.cml_step.specs.Calls.{entry_of, entry_in, entry_for, placed_in, text_of, slots_with, WaitFits}
use Rattle.cml_step.specs.Machines.{PlainHeld, plain_held, name_count}
use Rattle.cml_step.specs.Shared.{topped, called}
use Rattle.cml_step.specs.Stacks.{CallFits, entry_view, term_of, StackFits}
use Rattle.cml_step.specs.Terms.{Program, runs, drops, gives, call, force, wraps, Term, call_of}
use Rattle.cml_step.proofs.AwaitLemmas.{begun_runs}
use Rattle.cml_step.proofs.ForceLemmas.{PlaceAgrees, place_agrees, replaced_agrees, given_nack_agrees}
use Rattle.cml_step.proofs.StackLemmas.{term_pushed, fits_pushed, fits_popped, beneath_pushed, filled_for, filled_fits}

-- The entry on top, by what the thread waits for.
abbrev pub IsCall : Entry → Type 0
IsCall e = (c : Call) × (e ≡ entry.Call c)

abbrev pub IsForce : Entry → Type 0
IsForce e = (g : PlainEvent) × (asked : Bool) × (e ≡ entry.Force g asked)

by_no_value : (o : Option PlainNeed) → awaited_by o ≡ await.value → ⊥
by_no_value (Some (calls f)) h = cc
by_no_value (Some (needs_nack f)) h = cc
by_no_value None h = cc

by_nack : (o : Option PlainNeed) → awaited_by o ≡ await.nack → (f : PlainFunction) × (o ≡ Some (needs_nack f))
by_nack (Some (calls f)) h = absurd (cc)
by_nack (Some (needs_nack f)) h = (f, refl)
by_nack None h = absurd (cc)

call_waits : (o : Option (PlainItem ℕ)) (at : ℕ) (slots : List PlainValue) (w : Wait) (below : Term) (a : PlainAwait) → top_await (placed_in o at slots w ∷ below) ≡ a →
    (a ≡ await.nack → ⊥) × (a ≡ await.commit → ⊥)
call_waits (Some f) at slots wait.Runs below a h = ((λ e. cc), (λ e. cc))
call_waits (Some f) at slots wait.Drops below a h = ((λ e. cc), (λ e. cc))
call_waits (Some f) at slots (wait.Gives s) below a h = ((λ e. cc), (λ e. cc))
call_waits None at slots wait.Runs below a h = ((λ e. cc), (λ e. cc))
call_waits None at slots wait.Drops below a h = ((λ e. cc), (λ e. cc))
call_waits None at slots (wait.Gives s) below a h = ((λ e. cc), (λ e. cc))

value_top : (p : List (PlainItem ℕ)) (e : Entry) (below : Term) → top_await (entry_view p e ∷ below) ≡ await.value → IsCall e
value_top p (entry.Call c) below h = (c, refl)
value_top p (entry.Force g true) below h = absurd (by_no_value (unforced g) h)
value_top p (entry.Force g false) below h = absurd (cc)
value_top p (entry.Wraps w) below h = absurd (cc)

commit_top : (p : List (PlainItem ℕ)) (e : Entry) (below : Term) → top_await (entry_view p e ∷ below) ≡ await.commit → IsForce e
commit_top p (entry.Call c) below h = absurd ((call_waits (slice_get p c.func) c.at c.slots.items c.wait below await.commit h).1 refl)
commit_top p (entry.Force g asked) below h = (g, asked, refl)
commit_top p (entry.Wraps w) below h = absurd (cc)

nack_top : (g : PlainEvent) (asked : Bool) (below : Term) → top_await (force g asked ∷ below) ≡ await.nack → AwaitsNack g
nack_top g true below h = by_nack (unforced g) h
nack_top g false below h = absurd (cc)

pub value_last : (p : List (PlainItem ℕ)) (es : List PlainHeld) (e : Entry) → top_await (term_of p (es ++ plain_held e ∷ [])) ≡ await.value → IsCall e
value_last p es e h = value_top p e (term_of p es) (ap top_await (sym (term_pushed p es (plain_held e))) ∙ h)

pub commit_last : (p : List (PlainItem ℕ)) (es : List PlainHeld) (e : Entry) → top_await (term_of p (es ++ plain_held e ∷ [])) ≡ await.commit → IsForce e
commit_last p es e h = commit_top p e (term_of p es) (ap top_await (sym (term_pushed p es (plain_held e))) ∙ h)

pub nack_last : (p : List (PlainItem ℕ)) (es : List PlainHeld) (g : PlainEvent) (asked : Bool) → top_await (term_of p (es ++ plain_held (entry.Force g asked) ∷ [])) ≡ await.nack → AwaitsNack g
nack_last p es g asked h = nack_top g asked (term_of p es) (ap top_await (sym (term_pushed p es (plain_held (entry.Force g asked)))) ∙ h)

-- the same where the entries lie in their two places
commit_nowhere : (p : List (PlainItem ℕ)) (below : List PlainHeld) → below ≡ [] → top_await (term_of p below) ≡ await.commit → ⊥
commit_nowhere p below e h = let t = ap (λ hs. top_await (term_of p hs)) (sym e) ∙ h in cc

pub commit_in_place : (p : List (PlainItem ℕ)) (below : List PlainHeld) (own : Option Call) (over : Option Entry) → (over ≡ None → own ≡ None → below ≡ []) →
    top_await (term_of p (topped (called below own) over)) ≡ await.commit → (g : PlainEvent) × (asked : Bool) × (over ≡ Some (entry.Force g asked))
commit_in_place p below own (Some e) lifted h = let r = commit_last p (called below own) e h in (r.0, r.1, ap Some r.2)
commit_in_place p below (Some c) None lifted h = let r = commit_last p below (entry.Call c) h in absurd (cc)
commit_in_place p below None None lifted h = absurd (commit_nowhere p below (lifted refl refl) h)

-- a function of a program in order
got : (p : List (PlainItem ℕ)) (g : ℕ) (d : PlainItem ℕ) → g < length p → slice_get p g ≡ Some (slice_index_or p g d)
got [] g d l = absurd (omega arith)
got (x ∷ xs) zero d l = refl
got (x ∷ xs) (suc g) d l = got xs g d (omega arith)

nowhere : PlainItem ℕ
nowhere = record { name = []; names = []; arity = 0; body = no_stmts }

-- the term of a stack, once the value has come that the call on top waited for
filled_call : (p : List (PlainItem ℕ)) (f : PlainItem ℕ) (c d : Call) (v : PlainValue) (below : Term) → slice_get p c.func ≡ Some f → AreDistinct f.names → CallFits p c →
    (d.func ≡ c.func) × (d.at ≡ c.at) → d.wait ≡ wait.Runs → d.slots.items ≡ slots_with c.wait v c.slots.items →
    entry_of p d ∷ below ≡ after_answer (text_of p) (a_value v) (entry_of p c ∷ below)
filled_call p f c d v below o i h e w s =
    let room : WaitFits c.wait (length f.names) (length c.slots.items) = subst (λ x. WaitFits c.wait (name_count x) (length c.slots.items)) o h.waits in
    let q : entry_of p d ≡ entry_for f d = ap (λ n. entry_in (slice_get p n) d) e.0 ∙ ap (λ x. entry_in x d) o in
    ap (λ x. x ∷ below) (q ∙ filled_for f c d v i room e w s) ∙ ap (λ x. after_answer (text_of p) (a_value v) (entry_in x c ∷ below)) (sym o)

pub value_given : (p : List (PlainItem ℕ)) (es : List PlainHeld) (c d : Call) (v : PlainValue) → InOrder p → StackFits p (es ++ plain_held (entry.Call c) ∷ []) →
    (d.func ≡ c.func) × (d.at ≡ c.at) → d.wait ≡ wait.Runs → d.slots.items ≡ slots_with c.wait v c.slots.items →
    term_of p (es ++ plain_held (entry.Call d) ∷ []) ≡ after_answer (text_of p) (a_value v) (term_of p (es ++ plain_held (entry.Call c) ∷ []))
value_given p es c d v r h e w s =
    let fits : CallFits p c = (fits_popped p es (plain_held (entry.Call c)) h).1 in
    term_pushed p es (plain_held (entry.Call d))
    ∙ filled_call p (slice_index_or p c.func nowhere) c d v (term_of p es) (got p c.func nowhere fits.there) (r c.func nowhere fits.there).distinct fits e w s
    ∙ ap (after_answer (text_of p) (a_value v)) (sym (term_pushed p es (plain_held (entry.Call c))))

pub value_given_fits : (p : List (PlainItem ℕ)) (es : List PlainHeld) (c d : Call) (v : PlainValue) → StackFits p (es ++ plain_held (entry.Call c) ∷ []) → value_agrees (arities p) v ≡ true →
    d.func ≡ c.func → d.wait ≡ wait.Runs → d.slots.items ≡ slots_with c.wait v c.slots.items → StackFits p (es ++ plain_held (entry.Call d) ∷ [])
value_given_fits p es c d v h g e w s =
    let r = fits_popped p es (plain_held (entry.Call c)) h in fits_pushed p es (plain_held (entry.Call d)) r.0 (filled_fits p c d v r.1 g e w s)

-- wraps in the place of an event
functions_turned : (ns : List ℕ) (fs gs : List PlainFunction) → functions_agree ns fs ≡ true → functions_agree ns gs ≡ true → functions_agree ns (reverse_aux fs gs) ≡ true
functions_turned ns [] gs h g = g
functions_turned ns (f ∷ fs) gs h g = functions_turned ns fs (f ∷ gs) (and_parts (function_agrees ns 1 f) _ h).1 (and_from (function_agrees ns 1 f) _ (and_parts _ _ h).0 g)

pub commit_given : (p : List (PlainItem ℕ)) (es : List PlainHeld) (g : PlainEvent) (asked : Bool) (w : Wraps) (fs : List PlainFunction) (v : PlainValue) → w.left.items ≡ reverse fs → w.value ≡ v →
    term_of p (es ++ plain_held (entry.Wraps w) ∷ []) ≡ after_answer (text_of p) (a_commit v fs) (force g asked ∷ term_of p es)
commit_given p es g asked w fs v h e =
    term_pushed p es (plain_held (entry.Wraps w)) ∙ ap (λ gs. wraps (reverse gs) w.value ∷ term_of p es) h ∙ ap (λ gs. wraps gs w.value ∷ term_of p es) (reverse-reverse fs)
    ∙ ap (λ x. wraps fs x ∷ term_of p es) e

pub commit_given_fits : (p : List (PlainItem ℕ)) (es : List PlainHeld) (e : Entry) (w : Wraps) (fs : List PlainFunction) (v : PlainValue) → StackFits p (es ++ plain_held e ∷ []) →
    (value_agrees (arities p) v && functions_agree (arities p) fs) ≡ true → w.left.items ≡ reverse fs → w.value ≡ v → StackFits p (es ++ plain_held (entry.Wraps w) ∷ [])
commit_given_fits p es e w fs v h g i j = fits_pushed p es (plain_held (entry.Wraps w)) (fits_popped p es (plain_held e) h).0 (record {
  functions = ap (functions_agree (arities p)) i ∙ functions_turned (arities p) fs [] (and_parts (value_agrees (arities p) v) _ g).1 refl;
  value = ap (value_agrees (arities p)) j ∙ (and_parts _ _ g).0;
})

-- a nack, and the call of the withNack's function
pub nack_given : (p : List (PlainItem ℕ)) (es : List PlainHeld) (g new : PlainEvent) (asked : Bool) (k : ℕ) (f : PlainFunction) (c : Call) → unforced g ≡ Some (needs_nack f) →
    new ≡ replaced (scope k (guard (given_nack k f))) g → entry_of p c ≡ call_of (text_of p) (given_nack k f) →
    entry_of p c ∷ force new false ∷ term_of p es ≡ after_answer (text_of p) (a_nack k) (force g asked ∷ term_of p es)
nack_given p es g new asked k f c u n e =
    ap (λ x. x ∷ force new false ∷ term_of p es) e ∙ ap (λ x. call_of (text_of p) (given_nack k f) ∷ force x false ∷ term_of p es) n
    ∙ ap (λ o. with_nack_number (text_of p) k o g (term_of p es)) (sym u)

pub nack_agrees : (ns : List ℕ) (g : PlainEvent) (f : PlainFunction) (k : ℕ) → event_agrees ns g ≡ true → unforced g ≡ Some (needs_nack f) → function_agrees ns 0 (given_nack k f) ≡ true
nack_agrees ns g f k h u = given_nack_agrees ns f k (subst (PlaceAgrees ns) u (place_agrees ns g h))

pub nack_given_agrees : (ns : List ℕ) (g new : PlainEvent) (f : PlainFunction) (k : ℕ) → event_agrees ns g ≡ true → unforced g ≡ Some (needs_nack f) →
    new ≡ replaced (scope k (guard (given_nack k f))) g → event_agrees ns new ≡ true
nack_given_agrees ns g new f k h u n = ap (event_agrees ns) n ∙ replaced_agrees ns (scope k (guard (given_nack k f))) g (nack_agrees ns g f k h u) h

pub nack_term : (p : List (PlainItem ℕ)) (es : List PlainHeld) (g new : PlainEvent) (asked : Bool) (k : ℕ) (f : PlainFunction) (c : Call) → unforced g ≡ Some (needs_nack f) →
    new ≡ replaced (scope k (guard (given_nack k f))) g → entry_of p c ≡ call_of (text_of p) (given_nack k f) →
    term_of p ((es ++ plain_held (entry.Force new false) ∷ []) ++ plain_held (entry.Call c) ∷ []) ≡ after_answer (text_of p) (a_nack k) (term_of p (es ++ plain_held (entry.Force g asked) ∷ []))
nack_term p es g new asked k f c u n e =
    term_pushed p (es ++ plain_held (entry.Force new false) ∷ []) (plain_held (entry.Call c)) ∙ ap (λ t. entry_of p c ∷ t) (term_pushed p es (plain_held (entry.Force new false)))
    ∙ nack_given p es g new asked k f c u n e ∙ ap (after_answer (text_of p) (a_nack k)) (sym (term_pushed p es (plain_held (entry.Force g asked))))

pub nack_fits : (p : List (PlainItem ℕ)) (es : List PlainHeld) (g new : PlainEvent) (asked : Bool) (k : ℕ) (f : PlainFunction) (c : Call) → unforced g ≡ Some (needs_nack f) →
    new ≡ replaced (scope k (guard (given_nack k f))) g → unforced new ≡ Some (calls (given_nack k f)) →
    (function_agrees (arities p) 0 (given_nack k f) ≡ true → CallFits p c) → StackFits p (es ++ plain_held (entry.Force g asked) ∷ []) →
    StackFits p ((es ++ plain_held (entry.Force new false) ∷ []) ++ plain_held (entry.Call c) ∷ [])
nack_fits p es g new asked k f c u n a i h =
    let r = fits_popped p es (plain_held (entry.Force g asked)) h in
    fits_pushed p (es ++ plain_held (entry.Force new false) ∷ []) (plain_held (entry.Call c))
    (beneath_pushed p es (plain_held (entry.Force new false)) r.0 (nack_given_agrees (arities p) g new f k r.1 u n, (given_nack k f, a)))
    (i (nack_agrees (arities p) g f k r.1 u))

-- an answered thread waits for nothing
nack_runs : (p : Program) (k : ℕ) (o : Option PlainNeed) (e : PlainEvent) (below : Term) → unforced e ≡ o → awaited_by o ≡ await.nack → top_await (with_nack_number p k o e below) ≡ await.nothing
nack_runs p k (Some (calls f)) e below u h = absurd (cc)
nack_runs p k (Some (needs_nack f)) e below u h = begun_runs p (given_nack k f) (force (replaced (scope k (guard (given_nack k f))) e) false ∷ below)
nack_runs p k None e below u h = absurd (cc)

pub answered_runs : (p : Program) (a : PlainAnswer) (t : Term) → top_await t ≡ answer_for a → top_await (after_answer p a t) ≡ await.nothing
answered_runs p (a_value v) [] h = refl
answered_runs p (a_value v) (call left variables w ∷ below) h = refl
answered_runs p (a_value v) (force e true ∷ below) h = absurd (by_no_value (unforced e) h)
answered_runs p (a_value v) (force e false ∷ below) h = refl
answered_runs p (a_value v) (wraps fs w ∷ below) h = refl
answered_runs p (a_nack k) [] h = refl
answered_runs p (a_nack k) (call left variables runs ∷ below) h = refl
answered_runs p (a_nack k) (call left variables drops ∷ below) h = absurd (cc)
answered_runs p (a_nack k) (call left variables (gives x) ∷ below) h = absurd (cc)
answered_runs p (a_nack k) (force e true ∷ below) h = nack_runs p k (unforced e) e below refl h
answered_runs p (a_nack k) (force e false ∷ below) h = absurd (cc)
answered_runs p (a_nack k) (wraps fs w ∷ below) h = refl
answered_runs p (a_commit v gs) [] h = refl
answered_runs p (a_commit v gs) (call left variables runs ∷ below) h = refl
answered_runs p (a_commit v gs) (call left variables drops ∷ below) h = absurd (cc)
answered_runs p (a_commit v gs) (call left variables (gives x) ∷ below) h = absurd (cc)
answered_runs p (a_commit v gs) (force e asked ∷ below) h = refl
answered_runs p (a_commit v gs) (wraps fs w ∷ below) h = refl
