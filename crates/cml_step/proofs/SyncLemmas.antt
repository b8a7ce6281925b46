-- A synchronization where it stands: the event that is put over the call, and the group that is asked for.
use Rattle.std.proofs.Common.{◌≡◌, ℕ, ◌+◌, ◌<◌, Bool, true, false, Option, Some, None, List, [], ◌∷◌, ◌++◌, length, ap, sym, ◌∙◌, subst, arith}
use Rattle.cml_value.specs.Value.{PlainEvent}
use Rattle.cml_check.specs.Syntax.{PlainItem}
use Rattle.cml_check.specs.InOrder.{arities}
use Rattle.cml_step.specs.declared.call.Call.{Call}
use Rattle.cml_step.specs.declared.entry.Entry.{Entry}
use Rattle.cml_step.specs.declared.entry.Entry.TheVariants as entry
use Rattle.cml_step.specs.Agrees.{event_agrees}
use Rattle.cml_step.specs.Asks.{PlainAsk}
use Rattle.cml_step.specs.Calls.{entry_of, text_of}
use Rattle.cml_step.specs.Machines.{PlainHeld, plain_held}
use Rattle.cml_step.specs.Machines as held
use Rattle.cml_step.specs.Shared.{topped}
use Rattle.cml_step.specs.Stacks.{CallFits, StackFits, term_of}
use Rattle.cml_step.specs.Steps.{goes_on, asks, next, pushed}
use Rattle.cml_step.specs.Terms.{Program, Term, force, max_entries}
use Rattle.cml_step.proofs.QuickLemmas.{put, lower}
use Rattle.cml_step.proofs.StackLemmas.{pushed_is, term_length, term_pushed, fits_popped, fits_pushed, beneath_pushed, beneath_popped}

pub event_put : (p : List (PlainItem ℕ)) (self : ℕ) (hs old new : List PlainHeld) (c d : Call) (x : PlainEvent) → old ≡ hs ++ plain_held (entry.Call c) ∷ [] →
    new ≡ (hs ++ plain_held (entry.Call d) ∷ []) ++ held.force x false ∷ [] → length hs + 1 < 1024 →
    ((below : Term) → next (text_of p) self (entry_of p c ∷ below) ≡ pushed (force x false) (entry_of p d ∷ below)) →
    next (text_of p) self (term_of p old) ≡ goes_on (term_of p new)
event_put p self hs old new c d x is now room goes =
    let top : Term = entry_of p d ∷ term_of p hs in
    ap (λ t. next (text_of p) self t) (pushed_is p hs old (plain_held (entry.Call c)) is)
    ∙ goes (term_of p hs)
    ∙ put (force x false) top (lower (length top) max_entries (omega (arith, term_length p hs, room)))
    ∙ ap (λ t. goes_on (force x false ∷ t)) (sym (term_pushed p hs (plain_held (entry.Call d))))
    ∙ ap goes_on (sym (pushed_is p (hs ++ plain_held (entry.Call d) ∷ []) new (held.force x false) now))

pub put_fits : (p : List (PlainItem ℕ)) (hs old : List PlainHeld) (c d : Call) (x : PlainEvent) → old ≡ hs ++ plain_held (entry.Call c) ∷ [] → StackFits p old → CallFits p d →
    event_agrees (arities p) x ≡ true → StackFits p ((hs ++ plain_held (entry.Call d) ∷ []) ++ held.force x false ∷ [])
put_fits p hs old c d x is fits f g =
    let below = (fits_popped p hs (plain_held (entry.Call c)) (subst (StackFits p) is fits)).0 in
    fits_pushed p (hs ++ plain_held (entry.Call d) ∷ []) (held.force x false) (beneath_pushed p hs (plain_held (entry.Call d)) below f) g

-- a call on top, or under what stands over it
pub call_there : (p : List (PlainItem ℕ)) (hs : List PlainHeld) (c : Call) (over : Option Entry) → StackFits p (topped (hs ++ plain_held (entry.Call c) ∷ []) over) → CallFits p c
call_there p hs c None h = (fits_popped p hs (plain_held (entry.Call c)) h).1
call_there p hs c (Some e) h = (beneath_popped p hs (plain_held (entry.Call c)) (fits_popped p (hs ++ plain_held (entry.Call c) ∷ []) (plain_held e) h).0).1

-- another call on top, of the same entry
pub same_call : (p : List (PlainItem ℕ)) (hs old new : List PlainHeld) (c d : Call) → old ≡ hs ++ plain_held (entry.Call c) ∷ [] → new ≡ hs ++ plain_held (entry.Call d) ∷ [] →
    entry_of p d ≡ entry_of p c → term_of p old ≡ term_of p new
same_call p hs old new c d is now same =
    pushed_is p hs old (plain_held (entry.Call c)) is
    ∙ ap (λ e. e ∷ term_of p hs) (sym same)
    ∙ sym (pushed_is p hs new (plain_held (entry.Call d)) now)

pub same_fits : (p : List (PlainItem ℕ)) (hs old new : List PlainHeld) (c d : Call) → old ≡ hs ++ plain_held (entry.Call c) ∷ [] → new ≡ hs ++ plain_held (entry.Call d) ∷ [] →
    StackFits p old → CallFits p d → StackFits p new
same_fits p hs old new c d is now fits f =
    subst (StackFits p) (sym now) (fits_pushed p hs (plain_held (entry.Call d)) (fits_popped p hs (plain_held (entry.Call c)) (subst (StackFits p) is fits)).0 f)

-- an event on top whose group is asked for
pub group_put : (p : List (PlainItem ℕ)) (self : ℕ) (hs old new : List PlainHeld) (x : PlainEvent) (v w : Bool) (a : PlainAsk) → old ≡ hs ++ held.force x v ∷ [] → new ≡ hs ++ held.force x w ∷ [] →
    ((q : Program) (n : ℕ) (below : Term) → next q n (force x v ∷ below) ≡ asks a (force x w ∷ below)) → next (text_of p) self (term_of p old) ≡ asks a (term_of p new)
group_put p self hs old new x v w a is now goes =
    ap (λ t. next (text_of p) self t) (pushed_is p hs old (held.force x v) is)
    ∙ goes (text_of p) self (term_of p hs)
    ∙ ap (λ t. asks a t) (sym (pushed_is p hs new (held.force x w) now))

pub group_fits : (p : List (PlainItem ℕ)) (hs old new : List PlainHeld) (x : PlainEvent) (v w : Bool) → old ≡ hs ++ held.force x v ∷ [] → new ≡ hs ++ held.force x w ∷ [] →
    StackFits p old → StackFits p new × (event_agrees (arities p) x ≡ true)
group_fits p hs old new x v w is now fits =
    let r = fits_popped p hs (held.force x v) (subst (StackFits p) is fits) in
    (subst (StackFits p) (sym now) (fits_pushed p hs (held.force x w) r.0 r.1), r.1)

-- a call on top that asks
pub call_put : (p : List (PlainItem ℕ)) (self : ℕ) (hs old new : List PlainHeld) (c d : Call) (a : PlainAsk) → old ≡ hs ++ plain_held (entry.Call c) ∷ [] → new ≡ hs ++ plain_held (entry.Call d) ∷ [] →
    ((below : Term) → next (text_of p) self (entry_of p c ∷ below) ≡ asks a (entry_of p d ∷ below)) → next (text_of p) self (term_of p old) ≡ asks a (term_of p new)
call_put p self hs old new c d a is now goes =
    ap (λ t. next (text_of p) self t) (pushed_is p hs old (plain_held (entry.Call c)) is)
    ∙ goes (term_of p hs)
    ∙ ap (λ t. asks a t) (sym (pushed_is p hs new (plain_held (entry.Call d)) now))
