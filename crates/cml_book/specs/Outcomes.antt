-- The outcome of a command: the world after it and an answer, or a refusal.
use Rattle.std.specs.Prelude.{◌≡◌, ℕ, Bool, true, false, Option, Some, None, Result, Ok, Err, IsOk, slice_set}
use Rattle.cml_scan.specs.World.{PlainThread, running, PlainWorld}
use Rattle.cml_book.specs.declared.refusal.Refusal.{Refusal}
use Rattle.cml_book.specs.declared.refusal.Refusal.TheVariants as refusal
use Rattle.cml_book.specs.declared.refusal.Fault.{Fault}
use Rattle.cml_book.specs.declared.refusal.Returned.{Returned}
use Rattle.cml_book.specs.declared.refusal.Fault.TheVariants.{Refused, Memory}

-- a world with an answer, or a refusal
abbrev pub Outcome : Type 0 → Type 0
Outcome R = Result (PlainWorld × R) Refusal

-- the refusal if this holds, and else what follows; so the first refusal that fits is the answer
abbrev pub refuse_if : {R : Type 0} → Bool → Refusal → Outcome R → Outcome R
refuse_if true why rest = Err why
refuse_if false why rest = rest

-- the refusal if there is one, and else what follows
abbrev pub refuse_by : {R : Type 0} → Option Refusal → Outcome R → Outcome R
refuse_by (Some why) rest = Err why
refuse_by None rest = rest

-- the refusal if this holds, and else the next one, if there is one
abbrev pub first_if : Bool → Refusal → Option Refusal → Option Refusal
first_if true why next = Some why
first_if false why next = next

-- the first refusal, and else the next one
abbrev pub first_of_both : Option Refusal → Option Refusal → Option Refusal
first_of_both (Some why) next = Some why
first_of_both None next = next

-- how many threads there can be, and how many objects of each kind and nacks
abbrev pub max_threads : ℕ
max_threads = 4096

abbrev pub max_objects : ℕ
max_objects = 65536

-- why a thread can't do a command: it is not there, or it does not run
abbrev pub thread_refusal : Option PlainThread → Option Refusal
thread_refusal None = Some refusal.Thread
thread_refusal (Some running) = None
thread_refusal (Some _) = Some refusal.State

-- the world with this thread in this state
abbrev pub with_thread : PlainWorld → ℕ → PlainThread → PlainWorld
with_thread w t thread = record w { threads = slice_set w.threads t thread }

-- The call does what the definition says, and returns its answer; or it is refused as the definition says, and changes nothing; or it runs
-- out of memory, which can happen only where the definition accepts, and changes nothing.
abbrev pub Does : {R : Type 0} → Result R Fault → Outcome R → PlainWorld → PlainWorld → Type 0
Does (Ok r) outcome old new = outcome ≡ Ok (new, r)
Does (Err (Refused why)) outcome old new = (outcome ≡ Err why) × (new ≡ old)
Does (Err Memory) outcome old new = IsOk outcome × (new ≡ old)

-- The same of a call that is handed a value: where it does nothing, the value comes back as it was.
abbrev pub DoesWith : {R V : Type 0} → Result R (Returned V) → V → Outcome R → PlainWorld → PlainWorld → Type 0
DoesWith (Ok r) value outcome old new = outcome ≡ Ok (new, r)
DoesWith {R = R} (Err back) value outcome old new = (back.value ≡ value) × Does {R = R} (Err back.fault) outcome old new
