use Rattle.std.proofs.Common.{◌≡◌, ◌++◌, drop}
use Rattle.std.specs.List.{flat_map}
use Rattle.cml_group.proofs.force.done.Done.copy.Given as goal

-- the groups of the pieces there and of those to come are all
abbrev pub invariant-loop-piece : goal.invariant-loop-piece
invariant-loop-piece l = flat_map (λ p. p.value.items) l.pieces.items ++ flat_map (λ p. p.value.items) (drop l.piece-index l.piece-items) ≡ flat_map (λ p. p.value.items) l.piece-items
