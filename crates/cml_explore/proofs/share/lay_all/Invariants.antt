use Rattle.std.proofs.Common.{◌≡◌, length}
use Rattle.std.specs.Prelude.{IfOk}
use Rattle.std.specs.List.{All}
use Rattle.cml_explore.specs.Merges.{ArePartsTaken, ArePartsPlaced}
use Rattle.cml_explore.proofs.share.lay_all.Given as goal

-- what lies there so far, and what is left
abbrev pub invariant-laying : goal.invariant-laying
invariant-laying l = record {
  long : length l.places.items ≡ length l.fn.places.items;
  placed : ArePartsPlaced l.program l.asked l.fn.round l.places.items;
  left : All (λ one. IfOk one (λ taken. ArePartsTaken l.program l.asked l.fn.round (length l.places.items) taken.items)) l.all.items;
}

abbrev pub decreases-laying : goal.decreases-laying
decreases-laying l = length l.all.items
