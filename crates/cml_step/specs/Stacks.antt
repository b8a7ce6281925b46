-- The stack of the machine, and the term that it stands for under a program.
use Rattle.std.specs.Prelude.{◌≡◌, ℕ, true, List, [], ◌∷◌, ◌++◌, Result, Ok, Err}
use Rattle.cml_check.specs.Syntax.{PlainItem}
use Rattle.cml_check.specs.InOrder.{arities}
use Rattle.cml_step.specs.declared.ask.Ask.{Ask}
use Rattle.cml_step.specs.declared.fault.Stop.{Stop}
use Rattle.cml_step.specs.declared.fault.Stop.TheVariants as stop
use Rattle.cml_step.specs.declared.call.Call.{Call}
use Rattle.cml_step.specs.declared.entry.Wraps.{Wraps}
use Rattle.cml_step.specs.declared.entry.Entry.{Entry}
use Rattle.cml_step.specs.declared.call.Action.{Action}
use Rattle.cml_step.specs.declared.call.Action.TheVariants as did
use Rattle.cml_step.specs.Terms.{StackEntry, Term}
use Rattle.cml_step.specs.AskViews.{plain_ask}
use Rattle.cml_step.specs.Agrees.{ask_agrees}
use Rattle.cml_step.specs.Steps.{PlainStep, goes_on, asks, fails}
use Rattle.cml_step.specs.Machines.{PlainHeld, plain_held, held_entry, held_on, IsCallOf, AreWrapsOf, HeldFits, HeldFitsBeneath, AllHeldFit}

abbrev pub entry_view : List (PlainItem ℕ) → Entry → StackEntry
entry_view p e = held_entry p (plain_held e)

-- the term of these entries, the top one last
abbrev pub term_of : List (PlainItem ℕ) → List PlainHeld → Term
term_of p hs = held_on p hs []

abbrev pub CallFits : List (PlainItem ℕ) → Call → Type 0
CallFits p c = IsCallOf p c.func c.slots.items c.wait

abbrev pub WrapsFit : List (PlainItem ℕ) → Wraps → Type 0
WrapsFit p w = AreWrapsOf p w.left.items w.value

abbrev pub EntryFits : List (PlainItem ℕ) → Entry → Type 0
EntryFits p e = HeldFits p (plain_held e)

-- an event beneath another entry waits for the event of a guard's function
abbrev pub BeneathFits : List (PlainItem ℕ) → Entry → Type 0
BeneathFits p e = HeldFitsBeneath p (plain_held e)

abbrev pub EachBeneath : List (PlainItem ℕ) → List PlainHeld → Type 0
EachBeneath p [] = Unit {0}
EachBeneath p (h ∷ hs) = HeldFitsBeneath p h × EachBeneath p hs

abbrev pub StackFits : List (PlainItem ℕ) → List PlainHeld → Type 0
StackFits p hs = AllHeldFit p hs

-- what a step of the machine came to
abbrev pub IsStep : List (PlainItem ℕ) → Result (Unit {0}) Stop → Ask → PlainStep → List PlainHeld → Type 0
IsStep p (Ok done) a step es = step ≡ asks (plain_ask a) (term_of p es)
IsStep p (Err (stop.Fault why)) a step es = step ≡ fails why
IsStep p (Err stop.Memory) a step es = Unit {0}

abbrev pub StepFits : List (PlainItem ℕ) → Result (Unit {0}) Stop → Ask → List PlainHeld → Type 0
StepFits p (Ok done) a es = StackFits p es × (ask_agrees (arities p) (plain_ask a) ≡ true)
StepFits p (Err e) a es = Unit {0}

-- what delivering a value came to, where the entry on top stands for the entry `new` then
abbrev pub IsDelivered : Result (Unit {0}) Stop → StackEntry → Term → PlainStep → Type 0
IsDelivered (Ok done) new below step = step ≡ goes_on (new ∷ below)
IsDelivered (Err (stop.Fault why)) new below step = step ≡ fails why
IsDelivered (Err stop.Memory) new below step = Unit {0}

-- The entry that has made its step is in order where it stands: beneath another one if it put one on the stack, on top if it goes on or asks. One
-- that returns, or ends the thread, goes.
abbrev pub EntryStands : List (PlainItem ℕ) → Action → PlainHeld → Type 0
EntryStands p did.Goes h = HeldFits p h
EntryStands p (did.Calls g args) h = HeldFitsBeneath p h
EntryStands p (did.Forces e) h = HeldFitsBeneath p h
EntryStands p (did.Returns v) h = Unit {0}
EntryStands p (did.Asks a) h = HeldFits p h
EntryStands p did.Ends h = Unit {0}

-- such an entry is on top of this stack, and those below it are in order there
pub record TopStands (p : List (PlainItem ℕ)) (a : Action) (es : List PlainHeld) : Type 0 where
  pub rest : List PlainHeld
  pub top : PlainHeld
  pub is : es ≡ rest ++ top ∷ []
  pub beneath : EachBeneath p rest
  pub stands : EntryStands p a top
