use Rattle.std.proofs.Common.{arith}
use Rattle.std.proofs.lemmas.Grind.{common_steps}
use Rattle.cml_phrase.proofs.CutLemmas.{stops_at, begins_at, goes_on_at, none_at}
use Rattle.cml_phrase.proofs.cut.bytes_of_first.Goals as goal

pub returns-then-left-eq0-clause-count : goal.returns-then-left-eq0-clause-count
returns-then-left-eq0-clause-count c = grind (arith, common_steps, stops_at)

pub loop-i-preserved : goal.loop-i-preserved
loop-i-preserved c = grind (arith, common_steps, begins_at, goes_on_at)

pub returns-clause-count : goal.returns-clause-count
returns-clause-count c = grind (arith, common_steps, none_at)
