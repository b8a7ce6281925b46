use Rattle.std.proofs.Common.{arith}
use Rattle.std.proofs.lemmas.Grind.{common_steps}
use Rattle.cml_phrase.proofs.CutLemmas.{shown_wide, shown_one}
use Rattle.cml_phrase.proofs.cut.push_character.Goals as goal

pub returns-then-is_wide_control-clause-shown : goal.returns-then-is_wide_control-clause-shown
returns-then-is_wide_control-clause-shown c = grind (arith, common_steps, shown_wide)

pub returns-clause-shown : goal.returns-clause-shown
returns-clause-shown c = grind (arith, common_steps, shown_one)
