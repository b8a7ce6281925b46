-- A machine: a thread's number and its stack, as plain data, and the term that it stands for under a program.
use Rattle.std.specs.Prelude.{◌≡◌, ℕ, ◌<◌, Bool, true, List, [], ◌∷◌, length, reverse, Option, Some, None, slice_get}
use Rattle.cml_value.specs.Value.{PlainValue, PlainFunction, PlainEvent}
use Rattle.cml_group.specs.Force.{AwaitsEvent}
use Rattle.cml_check.specs.Syntax.{PlainItem}
use Rattle.cml_check.specs.InOrder.{InOrder, arities}
use Rattle.cml_step.specs.declared.call.Wait.{Wait}
use Rattle.cml_step.specs.declared.entry.Entry.{Entry}
use Rattle.cml_step.specs.declared.entry.Entry.TheVariants as entry
use Rattle.cml_step.specs.Agrees.{value_agrees, all_agree, event_agrees, functions_agree}
use Rattle.cml_step.specs.Answers.{IsShort}
use Rattle.cml_step.specs.Calls.{placed_in, WaitFits}
use Rattle.cml_step.specs.Terms.{StackEntry, Term}
use Rattle.cml_step.specs.Terms as term

-- What a machine holds of an entry: of a call its function, its place in it, the values of its slots and what it waits for; of an event
-- that is being forced the event, and whether it has asked; of wraps in progress the functions that are left, the next one last, and the
-- value that has come so far.
pub data PlainHeld : Type 0 where
  call : ℕ → ℕ → List PlainValue → Wait → PlainHeld
  force : PlainEvent → Bool → PlainHeld
  wraps : List PlainFunction → PlainValue → PlainHeld

-- the entries, the top one last
pub record PlainMachine : Type 0 where
  pub thread : ℕ
  pub stack : List PlainHeld

abbrev pub plain_held : Entry → PlainHeld
plain_held (entry.Call c) = call c.func c.at c.slots.items c.wait
plain_held (entry.Force g asked) = force g asked
plain_held (entry.Wraps w) = wraps w.left.items w.value

-- the entry that it stands for under a program
abbrev pub held_entry : List (PlainItem ℕ) → PlainHeld → StackEntry
held_entry p (call f at slots w) = placed_in (slice_get p f) at slots w
held_entry p (force e asked) = term.force e asked
held_entry p (wraps fs v) = term.wraps (reverse fs) v

-- the entries, the top one last, above those of `below`
abbrev pub held_on : List (PlainItem ℕ) → List PlainHeld → Term → Term
held_on p [] below = below
held_on p (h ∷ hs) below = held_on p hs (held_entry p h ∷ below)

-- the term of a machine
abbrev pub machine_term : List (PlainItem ℕ) → PlainMachine → Term
machine_term p m = held_on p m.stack []

-- how many names the function declares
abbrev pub name_count : Option (PlainItem ℕ) → ℕ
name_count (Some f) = length f.names
name_count None = 0

-- a call of one of the program's functions
pub record IsCallOf (p : List (PlainItem ℕ)) (f : ℕ) (slots : List PlainValue) (w : Wait) : Type 0 where
  pub there : f < length p
  pub agree : all_agree (arities p) slots ≡ true
  pub waits : WaitFits w (name_count (slice_get p f)) (length slots)

pub record AreWrapsOf (p : List (PlainItem ℕ)) (fs : List PlainFunction) (v : PlainValue) : Type 0 where
  pub functions : functions_agree (arities p) fs ≡ true
  pub value : value_agrees (arities p) v ≡ true

abbrev pub HeldFits : List (PlainItem ℕ) → PlainHeld → Type 0
HeldFits p (call f at slots w) = IsCallOf p f slots w
HeldFits p (force e asked) = event_agrees (arities p) e ≡ true
HeldFits p (wraps fs v) = AreWrapsOf p fs v

-- an event beneath another entry waits for the event of a guard's function
abbrev pub HeldFitsBeneath : List (PlainItem ℕ) → PlainHeld → Type 0
HeldFitsBeneath p (force e asked) = (event_agrees (arities p) e ≡ true) × AwaitsEvent e
HeldFitsBeneath p h = HeldFits p h

abbrev pub AllHeldFit : List (PlainItem ℕ) → List PlainHeld → Type 0
AllHeldFit p [] = Unit {0}
AllHeldFit p (h ∷ []) = HeldFits p h
AllHeldFit p (h ∷ g ∷ hs) = HeldFitsBeneath p h × AllHeldFit p (g ∷ hs)

-- A machine fits a program: the program is in order, each call is a call of one of its functions, all values, events and functions that
-- the machine holds agree with it, and the stack has at most 1,024 entries, also once the machine is answered.
pub record Fits (p : List (PlainItem ℕ)) (m : PlainMachine) : Type 0 where
  pub order : InOrder p
  pub stack : AllHeldFit p m.stack
  pub short : IsShort (machine_term p m)
