use Rattle.std.proofs.Common.{◌+◌, map, take}
use Rattle.cml_index.specs.Slots.{slot_in, has_slot, is_slot}
use Rattle.cml_index.specs.Stands as stands
use Rattle.cml_index.specs.Stands.{stand_at}
use Rattle.cml_index.proofs.Walks.{waits_more, one_more}
use Rattle.cml_index.proofs.Stood.{forgo_twice}
use Rattle.cml_index.proofs.lanes.Lanes.forgo.Goals as goal

pub loop-wait-preserved : goal.loop-wait-preserved
loop-wait-preserved c =
    let ss = map slot_in c.args.waits.now in
    let i = c.loop-wait.wait-index in
    one_more stands.HasForgone forgo_twice (stand_at c.args.self.now) (stand_at c.loop-wait.self)
    (stand_at c.forgo_of.new.self) (λ k. is_slot k c.slot.result) (λ k. has_slot k (take i ss))
    (λ k. has_slot k (take (i + 1) ss))
    (λ k. waits_more (is_slot k) c.args.waits.now i c.slot.result _ c.loop-wait-test.true c.slot.ensures) c.forgo_of.ensures.here c.forgo_of.ensures.elsewhere c.loop-wait.invariant
