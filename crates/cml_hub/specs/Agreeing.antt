-- The world agrees with a program: each function captured in an event in it takes as many values as its place asks, and no thread waits for
-- a tick above the greatest. So what a row hands its parties agrees with the program, and the time can move to each alarm.
use Rattle.std.specs.Prelude.{ℕ, ◌≡◌, Bool, true, not, List, Option, Some, None}
use Rattle.std.specs.List.{list_any}
use Rattle.cml_value.specs.Group.{bases}
use Rattle.cml_group.specs.Force.{event_of}
use Rattle.cml_scan.specs.World.{PlainThread, running, pending_on, ended, PlainWorld}
use Rattle.cml_scan.specs.Order.{Every}
use Rattle.cml_step.specs.Agrees.{event_agrees, functions_agree, value_agrees, all_agree, maybe_agrees}
use Rattle.cml_book.specs.Entering.{is_far}
use Rattle.cml_book.specs.Resumes.{PlainResume}
use Rattle.cml_book.specs.declared.command.Committed.{Committed}

-- what a thread waits on agrees with the program
abbrev pub thread_agrees : List ℕ → PlainThread → Bool
thread_agrees arities running = true
thread_agrees arities (pending_on g) = event_agrees arities (event_of g)
thread_agrees arities ended = true

-- the thread waits for no tick above the greatest
abbrev pub waits_soon : PlainThread → Bool
waits_soon running = true
waits_soon (pending_on g) = not (list_any (is_far 0) (bases g))
waits_soon ended = true

pub record WorldAgrees (arities : List ℕ) (w : PlainWorld) : Type 0 where
  pub threads : Every (thread_agrees arities) w.threads
  pub soon : Every waits_soon w.threads
  pub ivars : Every (maybe_agrees arities) w.ivars
  pub mvars : Every (maybe_agrees arities) w.mvars
  pub mailboxes : Every (all_agree arities) w.mailboxes
  pub ports : Every (all_agree arities) w.ports

-- what a party of a row gets agrees with the program
abbrev pub ResumeAgrees : List ℕ → PlainResume → Type 0
ResumeAgrees arities r = (value_agrees arities r.value ≡ true) × (functions_agree arities r.wraps ≡ true)

abbrev pub PartnerAgrees : List ℕ → Option PlainResume → Type 0
PartnerAgrees arities None = Unit {0}
PartnerAgrees arities (Some r) = ResumeAgrees arities r

abbrev pub CommittedAgrees : List ℕ → Committed → Type 0
CommittedAgrees arities c = ResumeAgrees arities c.head × PartnerAgrees arities c.partner
