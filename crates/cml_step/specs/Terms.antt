-- What a thread of a script has still to do.
use Rattle.std.specs.Prelude.{ℕ, Bool, List, [], ◌∷◌, Option, Some, None, slice_get}
use Rattle.cml_value.specs.Value.{PlainValue, PlainValues, no_values, values_and, PlainFunction, function, PlainEvent}
use Rattle.cml_check.specs.Syntax.{PlainItem, PlainStmts, no_stmts, Name}
use Rattle.cml_step.specs.Variables.{Variables, bound}

-- a program as it is written: its functions in order
abbrev pub Program : Type 0
Program = List (PlainItem Name)

-- what a call waits for: nothing, where it runs; a value that it drops, or one that a variable is given
pub data PlainWait : Type 0 where
  runs : PlainWait
  drops : PlainWait
  gives : Name → PlainWait

-- An entry of a stack: a call, with the statements that are left, its variables, and what it waits for; an event that is being
-- forced, and whether it has asked for a nack or for its synchronization; or wraps in progress, with the functions that are left and
-- the value that has come so far.
pub data StackEntry : Type 0 where
  call : PlainStmts Name → Variables → PlainWait → StackEntry
  force : PlainEvent → Bool → StackEntry
  wraps : List PlainFunction → PlainValue → StackEntry

-- the term of a thread: its stack, the top entry first; nothing is on the stack of a thread that has ended
abbrev pub Term : Type 0
Term = List StackEntry

-- the most entries of a stack (Concurrent ML has no such limit)
abbrev pub max_entries : ℕ
max_entries = 1024

abbrev pub list_of : PlainValues → List PlainValue
list_of no_values = []
list_of (values_and v vs) = v ∷ list_of vs

-- a call of the function at its first statement, where its parameters have these values; a function that is not there, which no
-- checked program names, does nothing
abbrev pub started : Option (PlainItem Name) → List PlainValue → StackEntry
started (Some f) vs = call f.body (bound f.names vs) runs
started None vs = call no_stmts [] runs

abbrev pub call_of : Program → PlainFunction → StackEntry
call_of p (function f vs) = started (slice_get p f) (list_of vs)
