use Rattle.std.proofs.Common.{refl}
use Rattle.cml_explore.proofs.ShrinkLemmas.{given_all}
use Rattle.cml_explore.proofs.shrink.replay.count_given.Goals as goal

pub returns-else-asked : goal.returns-else-asked
returns-else-asked c = given_all c.args.program.now c.args.asked.now c.args.items.now _ c.if-asked.false refl
