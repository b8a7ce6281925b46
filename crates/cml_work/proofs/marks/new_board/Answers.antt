use Rattle.std.proofs.Common.{rules, [], ◌∷◌}
use Rattle.cml_work.proofs.MarkSteps.{begins}
use Rattle.cml_work.proofs.marks.new_board.Goals as goal

pub ruled-requires : goal.ruled-requires
ruled-requires c = (search rules, (search rules, begins (0 ∷ [])))
