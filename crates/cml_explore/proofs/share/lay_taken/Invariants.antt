use Rattle.std.proofs.Common.{◌≡◌, length}
use Rattle.cml_explore.specs.Merges.{ArePartsTaken, ArePartsPlaced}
use Rattle.cml_explore.proofs.share.lay_taken.Given as goal

-- what lies there so far, and what is left
abbrev pub invariant-laying : goal.invariant-laying
invariant-laying l = record {
  long : length l.places.items ≡ length l.fn.places.items;
  placed : ArePartsPlaced l.program l.asked l.fn.round l.places.items;
  left : ArePartsTaken l.program l.asked l.fn.round (length l.places.items) l.taken.items;
}

abbrev pub decreases-laying : goal.decreases-laying
decreases-laying l = length l.taken.items
