use Rattle.std.proofs.Common.{◌≡◌, take}
use Rattle.cml_explore.specs.Merges.{classes_merged}
use Rattle.cml_explore.proofs.classes.Classes.absorb.Given as goal

-- the classes so far
abbrev pub invariant-loop-number : goal.invariant-loop-number
invariant-loop-number l = l.self ≡ classes_merged l.fn.self (take l.number l.later)
