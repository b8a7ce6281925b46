use Rattle.std.proofs.Common.{rules}
use Rattle.cml_explore.proofs.ExploreLemmas.{nothing_yet}
use Rattle.cml_explore.proofs.explored.Explored.new.Goals as goal

pub returns-clause-begins : goal.returns-clause-begins
returns-clause-begins c = λ p asked. nothing_yet p asked _ (search rules)
