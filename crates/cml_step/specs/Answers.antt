-- What becomes of a thread that is answered. To answer it is no step.
use Rattle.std.specs.Prelude.{ℕ, ◌+◌, ◌≤◌, true, false, ◌∷◌, length, Option, Some, None}
use Rattle.cml_value.specs.Value.{guard, scope, PlainEvent}
use Rattle.cml_group.specs.Force.{PlainNeed, calls, needs_nack, unforced, replaced, given_nack}
use Rattle.cml_step.specs.Terms.{Program, runs, drops, gives, call, force, wraps, Term, max_entries, call_of}
use Rattle.cml_step.specs.Asks as ask
use Rattle.cml_step.specs.Asks.{PlainAsk, PlainAnswer, a_value, a_nack, a_commit}
use Rattle.cml_step.specs.Steps.{filled}

-- what a thread waits for
pub data PlainAwait : Type 0 where
  nothing : PlainAwait
  value : PlainAwait
  nack : PlainAwait
  commit : PlainAwait

-- an event that has asked waits for a nack while a withNack is next, and for its commit once all is forced
abbrev pub awaited_by : Option PlainNeed → PlainAwait
awaited_by (Some (calls f)) = nothing
awaited_by (Some (needs_nack f)) = nack
awaited_by None = commit

abbrev pub top_await : Term → PlainAwait
top_await (call left variables drops ∷ below) = value
top_await (call left variables (gives x) ∷ below) = value
top_await (force e true ∷ below) = awaited_by (unforced e)
top_await term = nothing

-- how many entries the answer puts on the stack beside those that are there: for a nack the call of the withNack's function
abbrev pub entries_to_come : PlainAwait → ℕ
entries_to_come nack = 1
entries_to_come _ = 0

-- a stack has at most 1,024 entries, also once the thread is answered
abbrev pub IsShort : Term → Type 0
IsShort term = length term + entries_to_come (top_await term) ≤ max_entries

-- what a thread waits for that has asked this
abbrev pub await_of : PlainAsk → PlainAwait
await_of ask.nothing = nothing
await_of ask.end = nothing
await_of (ask.fault why) = nothing
await_of ask.fresh_nack = nack
await_of (ask.sync g) = commit
await_of _ = value

abbrev pub answer_for : PlainAnswer → PlainAwait
answer_for (a_value v) = value
answer_for (a_nack k) = nack
answer_for (a_commit v fs) = commit

-- The withNack gives way to a scope of its nack, and its function, given the nack's event as its last argument, is called. In the scope
-- stands a guard of that call, whose place the event that it returns takes (Reppy's withNack). With no withNack next nothing is called.
abbrev pub with_nack_number : Program → ℕ → Option PlainNeed → PlainEvent → Term → Term
with_nack_number p k (Some (needs_nack f)) e below =
    call_of p (given_nack k f) ∷ force (replaced (scope k (guard (given_nack k f))) e) false ∷ below
with_nack_number p k place e below = force e true ∷ below

-- A value goes to the call that waits for it. At a commit wraps in progress take the place of the event.
abbrev pub after_answer : Program → PlainAnswer → Term → Term
after_answer p (a_value v) (call left variables wait ∷ below) = call left (filled wait v variables) runs ∷ below
after_answer p (a_nack k) (force e asked ∷ below) = with_nack_number p k (unforced e) e below
after_answer p (a_commit v fs) (force e asked ∷ below) = wraps fs v ∷ below
after_answer p answer term = term
