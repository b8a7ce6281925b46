use Rattle.std.proofs.Common.{◌≡◌, ◌++◌, drop}
use Rattle.std.specs.List.{flat_map}
use Rattle.cml_group.proofs.force.done.Done.all_with.Given as goal

-- the groups there and those of the pieces to come are all
abbrev pub invariant-loop-piece : goal.invariant-loop-piece
invariant-loop-piece l = l.all.items ++ flat_map (λ p. p.value.items) (drop l.piece-index l.piece-items) ≡ flat_map (λ p. p.value.items) l.piece-items
