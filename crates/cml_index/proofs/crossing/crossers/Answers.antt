use Rattle.std.proofs.Common.{ap}
use Rattle.cml_index.proofs.Counted.{one_if}
use Rattle.cml_index.proofs.Crossed.{one_side}
use Rattle.cml_index.proofs.crossing.crossers.Goals as goal

pub returns-then-waits-lt2 : goal.returns-then-waits-lt2
returns-then-waits-lt2 c = ap (λ b. one_if b 1) (one_side c.args.waits.now c.if-waits-lt2.true)
