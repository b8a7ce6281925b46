use Rattle.std.proofs.Common.{arith}
use Rattle.std.proofs.lemmas.Grind.{common_steps}
use Rattle.cml_phrase.proofs.CutLemmas.{shown_none}
use Rattle.cml_phrase.proofs.cut.push_shown.Goals as goal

pub returns : goal.returns
returns c = grind (arith, common_steps, shown_none)
