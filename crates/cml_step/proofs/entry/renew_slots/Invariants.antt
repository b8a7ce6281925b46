use Rattle.std.proofs.Common.{◌≡◌, take}
use Rattle.cml_step.proofs.entry.renew_slots.Given as goal

abbrev pub invariant-loop-value : goal.invariant-loop-value
invariant-loop-value l = l.slots.items ≡ take l.value-index l.values
