use Rattle.std.proofs.Common.{◌∙◌, arith}
use Rattle.cml_book.proofs.Awaited.{awaited-take}
use Rattle.cml_book.proofs.ticks.count_ticks.Goals as goal

pub loop-n-preserved : goal.loop-n-preserved
loop-n-preserved c = record {
  counted = λ t. (let more = awaited-take t c.args.flat.now c.loop-n.n c.leaf.result.now c.leaf.ensures in let was = c.loop-n.invariant.counted t in let now = c.in-Ok.ensures.ok t in omega arith);
  now = c.in-Ok.ensures.now ∙ c.loop-n.invariant.now;
}
