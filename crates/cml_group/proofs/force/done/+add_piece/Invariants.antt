use Rattle.std.proofs.Common.{length}
use Rattle.cml_group.proofs.force.done.+add_piece.Given as goal

abbrev pub decreases-add_piece : goal.decreases-add_piece
decreases-add_piece l = length l.pieces.now.items
