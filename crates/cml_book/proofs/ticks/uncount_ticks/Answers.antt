use Rattle.std.proofs.Common.{◌+◌, ◌∙◌, arith}
use Rattle.cml_value.specs.Group.{bases}
use Rattle.cml_book.proofs.Awaited.{awaited-take, awaited-le}
use Rattle.cml_book.proofs.ticks.uncount_ticks.Goals as goal

pub uncount_tick-requires : goal.uncount_tick-requires
uncount_tick-requires c = λ t.
    let more = awaited-take t c.args.flat.now c.loop-n.n c.leaf.result.now c.leaf.ensures in
    let left = c.loop-n.invariant.left t in
    let all = c.requires.counted t in
    let below = awaited-le t (bases c.args.flat.now) (c.loop-n.n + 1) c.args.past (omega (arith, c.loop-n-test.true)) in
    omega arith

pub loop-n-preserved : goal.loop-n-preserved
loop-n-preserved c = record {
  left = λ t. (let more = awaited-take t c.args.flat.now c.loop-n.n c.leaf.result.now c.leaf.ensures in let was = c.loop-n.invariant.left t in let now = c.uncount_tick.ensures.left t in omega arith);
  now = c.uncount_tick.ensures.now ∙ c.loop-n.invariant.now;
}
