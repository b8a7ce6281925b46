-- A call as the machine holds it, and the entry of a term that it stands for.
use Rattle.std.specs.Prelude.{◌≡◌, ℕ, ◌<◌, Bool, true, false, if◌then◌else◌, List, [], ◌∷◌, length, map, Result, Ok, Err, Option, Some, None, slice_get, slice_set}
use Rattle.cml_value.specs.Value.{PlainValue, function, values}
use Rattle.cml_check.specs.Syntax.{PlainItem, PlainStmts, no_stmts, stmts_map, Name, name_at, written}
use Rattle.cml_check.specs.Names.{AreDistinct}
use Rattle.cml_check.specs.Layout.{left}
use Rattle.cml_step.specs.declared.fault.Stop.{Stop}
use Rattle.cml_step.specs.declared.fault.Stop.TheVariants as stop
use Rattle.cml_step.specs.declared.ask.Ask.{Ask}
use Rattle.cml_step.specs.declared.call.Wait.{Wait}
use Rattle.cml_step.specs.declared.call.Wait.TheVariants as wait
use Rattle.cml_step.specs.declared.call.Call.{Call}
use Rattle.cml_step.specs.declared.call.Action.{Action}
use Rattle.cml_step.specs.declared.call.Action.TheVariants as did
use Rattle.cml_step.specs.Agrees.{value_agrees, all_agree, event_agrees, function_agrees, ask_agrees}
use Rattle.cml_step.specs.Variables.{Variables, bound}
use Rattle.cml_step.specs.Terms.{Program, PlainWait, runs, drops, gives, StackEntry, call, force, Term, call_of}
use Rattle.cml_step.specs.AskViews.{plain_ask}
use Rattle.cml_step.specs.Faults.{Found}
use Rattle.cml_step.specs.Steps.{PlainStep, goes_on, asks, ends, fails, pushed, delivered}

abbrev pub wait_of : List Name → Wait → PlainWait
wait_of names wait.Runs = runs
wait_of names wait.Drops = drops
wait_of names (wait.Gives slot) = gives (name_at names slot)

-- the statements that are left at a place of f, as they are written
abbrev pub statements_at : PlainItem ℕ → ℕ → PlainStmts Name
statements_at f at = stmts_map (name_at f.names) (left f.body at)

-- the entry that a call of f stands for: where it is at this place, with these values in its slots
abbrev pub call_at : PlainItem ℕ → ℕ → List PlainValue → Wait → StackEntry
call_at f at slots w = call (statements_at f at) (bound f.names slots) (wait_of f.names w)

abbrev pub placed_in : Option (PlainItem ℕ) → ℕ → List PlainValue → Wait → StackEntry
placed_in (Some f) at slots w = call_at f at slots w
placed_in None at slots w = call no_stmts [] (wait_of [] w)

abbrev pub entry_for : PlainItem ℕ → Call → StackEntry
entry_for f c = call_at f c.at c.slots.items c.wait

abbrev pub entry_in : Option (PlainItem ℕ) → Call → StackEntry
entry_in o c = placed_in o c.at c.slots.items c.wait

abbrev pub entry_of : List (PlainItem ℕ) → Call → StackEntry
entry_of p c = entry_in (slice_get p c.func) c

-- the program as it is written
abbrev pub text_of : List (PlainItem ℕ) → Program
text_of p = map written p

-- the slots once the value that was waited for has come
abbrev pub slots_with : Wait → PlainValue → List PlainValue → List PlainValue
slots_with (wait.Gives slot) v slots = slice_set slots slot v
slots_with w v slots = slots

-- a slot whose value is waited for is one of the function's, and the call has this slot
abbrev pub WaitFits : Wait → ℕ → ℕ → Type 0
WaitFits (wait.Gives slot) names slots = (slot < names) × (slot < slots)
WaitFits w names slots = Unit {0}

-- what the call did agrees with the program
abbrev pub ActionAgrees : List ℕ → Result Action Stop → Type 0
ActionAgrees fs (Ok (did.Calls g args)) = function_agrees fs 0 (function g (values args.items)) ≡ true
ActionAgrees fs (Ok (did.Forces e)) = event_agrees fs e ≡ true
ActionAgrees fs (Ok (did.Returns v)) = value_agrees fs v ≡ true
ActionAgrees fs (Ok (did.Asks a)) = ask_agrees fs (plain_ask a) ≡ true
ActionAgrees fs _ = Unit {0}

-- What a call did in its step is what the step comes to. The call stands for the entry `new` then, whatever stands beneath it.
abbrev pub MovesTo : List (PlainItem ℕ) → Result Action Stop → StackEntry → Term → PlainStep → Type 0
MovesTo p (Ok did.Goes) new below step = step ≡ goes_on (new ∷ below)
MovesTo p (Ok (did.Calls g args)) new below step = step ≡ pushed (call_of (text_of p) (function g (values args.items))) (new ∷ below)
MovesTo p (Ok (did.Forces e)) new below step = step ≡ pushed (force e false) (new ∷ below)
MovesTo p (Ok (did.Returns v)) new below step = step ≡ delivered v below
MovesTo p (Ok (did.Asks a)) new below step = step ≡ asks (plain_ask a) (new ∷ below)
MovesTo p (Ok did.Ends) new below step = step ≡ ends
MovesTo p (Err (stop.Fault why)) new below step = step ≡ fails why
MovesTo p (Err stop.Memory) new below step = Unit {0}

-- the same of a call of the function f
abbrev pub Moves : List (PlainItem ℕ) → PlainItem ℕ → Result Action Stop → Call → Term → PlainStep → Type 0
Moves p f r new below step = MovesTo p r (entry_for f new) below step

-- the variables of a call of the function f
abbrev pub variables_of : PlainItem ℕ → Call → Variables
variables_of f c = bound f.names c.slots.items

-- a step that goes on at one of two places of f: at the first where the test holds, else at the second
abbrev pub chosen : PlainItem ℕ → Found Bool → ℕ → ℕ → Variables → Term → PlainStep
chosen f (Ok holds) first second variables below = goes_on (call (statements_at f (if holds then first else second)) variables runs ∷ below)
chosen f (Err why) first second variables below = fails why

-- The call of f agrees with the program, and each variable of f has a name of its own.
pub record IsSound (fs : List ℕ) (f : PlainItem ℕ) (c : Call) : Type 0 where
  pub distinct : AreDistinct f.names
  pub agree : all_agree fs c.slots.items ≡ true

-- The call of f is sound and runs.
pub record IsReady (fs : List ℕ) (f : PlainItem ℕ) (c : Call) : Type 0 where
  pub sound : IsSound fs f c
  pub runs : c.wait ≡ wait.Runs

-- After a step the call is one of the same function, agrees with the program, and waits for nothing that has no place; so does what it did.
pub record Stays (fs : List ℕ) (f : PlainItem ℕ) (r : Result Action Stop) (old new : Call) : Type 0 where
  pub agree : all_agree fs new.slots.items ≡ true
  pub waits : WaitFits new.wait (length f.names) (length new.slots.items)
  pub agrees : ActionAgrees fs r
  pub same : new.func ≡ old.func

-- A step that was made went on, to the entry that the call of f stands for then; one that was not made is at fault, or memory ran out, and
-- the call stands where it stood.
abbrev pub StepsOn : {A : Type 0} → PlainItem ℕ → Result A Stop → Call → Call → Term → PlainStep → Type 0
StepsOn f (Ok x) old new below step = step ≡ goes_on (entry_for f new ∷ below)
StepsOn f (Err (stop.Fault why)) old new below step = (step ≡ fails why) × (entry_for f new ≡ entry_for f old)
StepsOn f (Err stop.Memory) old new below step = entry_for f new ≡ entry_for f old

-- The call runs still: it is one of the same function, and agrees with the program.
pub record RunsOn (fs : List ℕ) (old new : Call) : Type 0 where
  pub agree : all_agree fs new.slots.items ≡ true
  pub runs : new.wait ≡ wait.Runs
  pub same : new.func ≡ old.func

-- what a call of the machine has found to ask is what the step comes to
abbrev pub MovesToAsk : Result Ask Stop → Term → PlainStep → Type 0
MovesToAsk (Ok a) term step = step ≡ asks (plain_ask a) term
MovesToAsk (Err (stop.Fault why)) term step = step ≡ fails why
MovesToAsk (Err stop.Memory) term step = Unit {0}
