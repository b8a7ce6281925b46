use Rattle.std.proofs.Common.{take}
use Rattle.cml_explore.specs.Told.{AreEachBreakTold}
use Rattle.cml_explore.proofs.tell.each_break_told.Given as goal

-- those so far
abbrev pub invariant-loop-one : goal.invariant-loop-one
invariant-loop-one l = AreEachBreakTold l.hub (take l.one-index l.breaks) l.told.items
