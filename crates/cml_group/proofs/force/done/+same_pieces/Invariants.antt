use Rattle.std.proofs.Common.{◌+◌, ◌++◌, length}
use Rattle.std.specs.List.{flat_map}
use Rattle.cml_group.proofs.force.done.+same_pieces.Given as goal

-- the groups that are left, and the pieces that are not open
abbrev pub decreases-same_pieces : goal.decreases-same_pieces
decreases-same_pieces l =
    length (l.groups.now ++ flat_map (λ p. p.value.items) l.pieces.now) + length l.pieces.now
    + (length (l.others.now ++ flat_map (λ p. p.value.items) l.other_pieces.now) + length l.other_pieces.now)
