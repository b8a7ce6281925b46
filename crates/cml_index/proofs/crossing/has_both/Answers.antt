use Rattle.std.proofs.Common.{map}
use Rattle.cml_index.specs.Slots.{slot_in}
use Rattle.cml_index.specs.Crossing as spec
use Rattle.cml_index.proofs.Walks.{any_next, any_found, any_none}
use Rattle.cml_index.proofs.crossing.has_both.Goals as goal

pub loop-wait-preserved : goal.loop-wait-preserved
loop-wait-preserved c = any_next (spec.meets_own (map slot_in c.args.waits.now)) c.args.waits.now c.loop-wait.wait-index
    c.meets_own.result _ c.loop-wait-test.true c.meets_own.ensures c.loop-wait.invariant c.if-meets_own.false

pub returns-then-meets_own : goal.returns-then-meets_own
returns-then-meets_own c = any_found (spec.meets_own (map slot_in c.args.waits.now)) c.args.waits.now
    c.loop-wait.wait-index c.meets_own.result _ c.loop-wait-test.true c.meets_own.ensures c.if-meets_own.true

pub returns : goal.returns
returns c = any_none (spec.meets_own (map slot_in c.args.waits.now)) c.args.waits.now c.loop-wait.wait-index c.loop-wait-test.false c.loop-wait.invariant
