use Rattle.cml_index.specs.Crossing as spec
use Rattle.cml_index.proofs.Walks.{any_next, any_found, any_none}
use Rattle.cml_index.proofs.crossing.has_side.Goals as goal

pub loop-wait-preserved : goal.loop-wait-preserved
loop-wait-preserved c = any_next (spec.is_on c.args.heads) c.args.waits.now c.loop-wait.wait-index c.is_on.result _ c.loop-wait-test.true c.is_on.ensures c.loop-wait.invariant c.if-is_on.false

pub returns-then-is_on : goal.returns-then-is_on
returns-then-is_on c = any_found (spec.is_on c.args.heads) c.args.waits.now c.loop-wait.wait-index c.is_on.result _ c.loop-wait-test.true c.is_on.ensures c.if-is_on.true

pub returns : goal.returns
returns c = any_none (spec.is_on c.args.heads) c.args.waits.now c.loop-wait.wait-index c.loop-wait-test.false c.loop-wait.invariant
