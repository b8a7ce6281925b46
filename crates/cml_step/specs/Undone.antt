-- What a slice notes of the call on top, and what the stack was before it.
use Rattle.std.specs.Prelude.{◌≡◌, List, [], ◌∷◌, ◌++◌, Option, Some, None, length, take, slice_set}
use Rattle.cml_value.specs.Value.{PlainValue}
use Rattle.cml_step.specs.declared.call.Call.{Call}
use Rattle.cml_step.specs.declared.entry.Entry.TheVariants as entry
use Rattle.cml_step.specs.declared.entry.Entry.{Entry}
use Rattle.cml_step.specs.declared.entry.Wraps.{Wraps}
use Rattle.cml_step.specs.declared.journal.Noted.{Noted}
use Rattle.cml_step.specs.declared.journal.Journal.{Journal}
use Rattle.cml_step.specs.Machines.{PlainHeld, call, plain_held}
use Rattle.cml_step.specs.Shared.{topped, HasNoCall}

-- the slots, where each that was set has what it had: the last set is undone first
abbrev pub unset : List Noted → List PlainValue → List PlainValue
unset [] slots = slots
unset (n ∷ ns) slots = slice_set (unset ns slots) n.slot n.value

-- The call as the journal has it: where it stood, what it waited for, with as many slots as it had, and in each that was set what it had.
abbrev pub call_before : Journal → Call → PlainHeld
call_before j c = call c.func j.at (unset j.sets.items (take j.count c.slots.items)) j.wait

-- this call on top of the entries, and over it what may stand there
abbrev pub stood : List PlainHeld → Call → Option Entry → List PlainHeld
stood below c over = topped (below ++ plain_held (entry.Call c) ∷ []) over

-- the wraps that the journal has, as an entry
abbrev pub wrapped : Option Wraps → Option Entry
wrapped None = None
wrapped (Some w) = Some (entry.Wraps w)

-- the same before what the journal has
abbrev pub stack_before : List PlainHeld → Journal → Call → List PlainHeld
stack_before below j c = topped (below ++ call_before j c ∷ []) (wrapped j.over)

-- where the call stood, what it waited for, and how many slots it had
pub record HasHead (j : Journal) (c : Call) : Type 0 where
  pub at : j.at ≡ c.at
  pub wait : j.wait ≡ c.wait
  pub count : j.count ≡ length c.slots.items

-- The call has the slots that it had, and maybe more.
pub record HasSlotsOf (old new : Call) : Type 0 where
  pub slots : take (length old.slots.items) new.slots.items ≡ old.slots.items
  pub func : new.func ≡ old.func

-- What was set meanwhile is noted: undone, the slots are what they are with what was noted before undone.
pub record HasNotes (sets : List Noted) (old : Call) (more : List Noted) (new : Call) : Type 0 where
  pub slots : unset more new.slots.items ≡ unset sets old.slots.items
  pub count : length new.slots.items ≡ length old.slots.items
  pub func : new.func ≡ old.func

-- The call on top, and what may stand over it now; what the stack was before is that call as the journal has it, the wraps that stood over
-- it, and the same entries below.
pub record IsNotedStack (j : Journal) (now before : List PlainHeld) : Type 0 where
  pub below : List PlainHeld
  pub top : Call
  pub over : Option Entry
  pub no_call : HasNoCall over
  pub now_is : now ≡ stood below top over
  pub before_is : before ≡ stack_before below j top
