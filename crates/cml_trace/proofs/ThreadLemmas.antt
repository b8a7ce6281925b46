-- Threads that do not run.
use Rattle.std.proofs.Common.{◌≡◌, ℕ, Option, Some, None, refl, option_and_then}
use Rattle.cml_value.specs.Group.{PlainGroup}
use Rattle.cml_scan.specs.World.{PlainThread, running, pending_on, ended}
use Rattle.cml_book.specs.Threads.{flat_of}
use Rattle.cml_trace.specs.declared.why.Act.{Act}
use Rattle.cml_trace.specs.declared.why.Why.TheVariants as why
use Rattle.cml_trace.specs.Whys.{idle_why}

-- one that waits on a group is pending
pub idle_pending : (thread : Option PlainThread) (g : PlainGroup) (t : ℕ) (act : Act) → option_and_then flat_of thread ≡ Some g → idle_why thread t act ≡ why.Pending t act
idle_pending None g t act e = absurd (cc)
idle_pending (Some running) g t act e = absurd (cc)
idle_pending (Some (pending_on h)) g t act e = refl
idle_pending (Some ended) g t act e = absurd (cc)

-- any other has ended
pub idle_past : (thread : Option PlainThread) (t : ℕ) (act : Act) → option_and_then flat_of thread ≡ None → idle_why thread t act ≡ why.Ended t act
idle_past None t act e = refl
idle_past (Some running) t act e = refl
idle_past (Some (pending_on h)) t act e = absurd (cc)
idle_past (Some ended) t act e = refl
