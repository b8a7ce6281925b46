-- What a forcing asks for next, and when it refuses an answer.
use Rattle.std.specs.Prelude.{◌≡◌, Option, Some, None, true, false}
use Rattle.cml_value.specs.Value.{PlainEvent, PlainFunction}
use Rattle.cml_value.specs.Limits.{event_fits}
use Rattle.cml_group.specs.Force.{PlainNeed, calls, needs_nack}
use Rattle.cml_group.specs.declared.force.Next.{Next}
use Rattle.cml_group.specs.declared.force.Next.TheVariants.{Call, NeedNack, Ready}
use Rattle.cml_group.specs.declared.fault.ForceFault.{ForceFault}
use Rattle.cml_group.specs.declared.fault.ForceFault.TheVariants.{Deep, Memory}

-- a guard's function is to be called, a withNack needs its nack, or all is forced
abbrev pub Asks : Next → Option PlainNeed → Type 0
Asks (Call f) asked = asked ≡ Some (calls f)
Asks NeedNack asked = (f : PlainFunction) × (asked ≡ Some (needs_nack f))
Asks Ready asked = asked ≡ None

-- Deep comes where the whole event, with the answer in its place and with what is still unforced, would not be within the
-- limits, and Memory only where it would. Each hands the answer back.
abbrev pub RefusesAnswer : ForceFault → PlainEvent → PlainEvent → Type 0
RefusesAnswer (Deep back) answer whole = (event_fits whole ≡ false) × (back ≡ answer)
RefusesAnswer (Memory back) answer whole = (event_fits whole ≡ true) × (back ≡ answer)
