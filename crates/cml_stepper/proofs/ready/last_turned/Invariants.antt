use Rattle.std.proofs.Common.{◌≡◌, ◌-◌, length, take}
use Rattle.cml_stepper.specs.Picks.{last_turned}
use Rattle.cml_stepper.proofs.ready.last_turned.Given as goal

abbrev pub invariant-loop-k : goal.invariant-loop-k
invariant-loop-k l = last_turned (take (length l.items - l.k) l.items) ≡ last_turned l.items
