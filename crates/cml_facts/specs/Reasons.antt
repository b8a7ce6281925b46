-- Why a thread ended at a fault: by where it stood before its last step, and what it asked for by that.
use Rattle.std.specs.Prelude.{ℕ, List, reverse, Option, Some, slice_get}
use Rattle.std.specs.Option.{option_map_or}
use Rattle.cml_check.specs.Syntax.{PlainItem}
use Rattle.cml_check.specs.Layout.{left}
use Rattle.cml_step.specs.Asks as ask
use Rattle.cml_step.specs.Asks.{PlainAsk}
use Rattle.cml_step.specs.Machines.{PlainHeld, call, PlainMachine}
use Rattle.cml_step.specs.Variables.{slot_value}
use Rattle.cml_facts.specs.declared.fault.part.Part.{Part}
use Rattle.cml_facts.specs.declared.fault.part.Part.TheVariants as part
use Rattle.cml_facts.specs.declared.fault.reason.Reason.{Reason}
use Rattle.cml_facts.specs.declared.fault.reason.Reason.TheVariants as reason
use Rattle.cml_facts.specs.Parts.{part_of_step}

-- the top entry of a stack, which is its last, if there is one
abbrev pub top_entry : List PlainHeld → Option PlainHeld
top_entry stack = slice_get (reverse stack) 0

-- the part that is at fault: a call's is that of the statement that is next
abbrev pub part_of_entry : List (PlainItem ℕ) → Option PlainHeld → Part
part_of_entry p (Some (call f at slots w)) = option_map_or (λ g. part_of_step (slot_value slots) (left g.body at)) (slice_get p f) part.Other
part_of_entry p h = part.Other

-- a fault of the step itself, or an effect that the world refused
abbrev pub reason_of : List (PlainItem ℕ) → PlainMachine → PlainAsk → Reason
reason_of p m (ask.fault why) = reason.Step why (part_of_entry p (top_entry m.stack))
reason_of p m (ask.iput i v) = reason.FullIVar i
reason_of p m (ask.mput i v) = reason.FullMVar i
reason_of p m (ask.sync g) = reason.Group
reason_of p m (ask.mail b v) = reason.FullMailbox b
reason_of p m (ask.multicast x v) = reason.FullPort x
reason_of p m (ask.spawn f) = reason.Thread
reason_of p m ask.fresh_nack = reason.Nack
reason_of p m a = reason.Object
