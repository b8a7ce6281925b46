use Rattle.std.proofs.Common.{map, take}
use Rattle.cml_explore.specs.Ends.{AreEachTold}
use Rattle.cml_explore.proofs.ends.each_told.Given as goal

-- those so far
abbrev pub invariant-loop-number : goal.invariant-loop-number
invariant-loop-number l = AreEachTold (map (λ own. own.items) l.places) l.program l.servers (take l.number l.classes) l.told.items
