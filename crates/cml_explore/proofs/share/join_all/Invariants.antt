use Rattle.std.proofs.Common.{◌≡◌, length}
use Rattle.cml_explore.specs.Merges.{ArePartsPlaced, IsAmidRound}
use Rattle.cml_explore.proofs.share.join_all.Given as goal

-- the parts so far, and what lies at the places
abbrev pub invariant-loop-number : goal.invariant-loop-number
invariant-loop-number l = record {
  long : length l.places.items ≡ length l.fn.places.items;
  placed : ArePartsPlaced l.program l.asked l.round l.places.items;
  amid : IsAmidRound l.program l.asked l.so_far l.round (length l.fn.places.items) l.number l.made;
}
