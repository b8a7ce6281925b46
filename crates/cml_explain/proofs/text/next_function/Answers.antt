use Rattle.std.proofs.Common.{arith}
use Rattle.std.proofs.lemmas.Grind.{common_steps}
use Rattle.cml_explain.proofs.TextLemmas.{found_at, passed_at, none_at}
use Rattle.cml_explain.proofs.text.next_function.Goals as goal

pub returns-then-is_before_function : goal.returns-then-is_before_function
returns-then-is_before_function c = grind (arith, common_steps, found_at)

pub loop-i-preserved : goal.loop-i-preserved
loop-i-preserved c = grind (arith, common_steps, passed_at)

pub returns : goal.returns
returns c = grind (arith, common_steps, none_at)
