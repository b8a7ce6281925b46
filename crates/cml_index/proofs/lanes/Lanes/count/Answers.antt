use Rattle.std.proofs.Common.{◌≡◌, ◌+◌, ◌∷◌, cond, length, map, drop, ap, ◌∙◌}
use Rattle.std.specs.Option.{option_copied}
use Rattle.cml_index.specs.Slots.{slot_in, slot_leaves, is_slot}
use Rattle.cml_index.specs.Stands.{stand_at}
use Rattle.cml_index.proofs.Walks.{leaves_left, decide}
use Rattle.cml_index.proofs.Stood.{counted_more, counted_same}
use Rattle.cml_index.proofs.lanes.Lanes.count.Goals as goal

pub loop-wait-preserved : goal.loop-wait-preserved
loop-wait-preserved c k =
    let ss = map slot_in c.args.waits.now in
    let i = c.loop-wait.wait-index in
    let rest = slot_leaves k (i + 1) (drop (i + 1) ss) in
    let left : slot_leaves k i (drop i ss) ≡ cond (is_slot k (option_copied c.slot_ref.result)) (i ∷ rest) rest = leaves_left k c.args.waits.now i
    (option_copied c.slot_ref.result) _ c.loop-wait-test.true c.slot_ref.ensures in
    decide (is_slot k (option_copied c.slot_ref.result))
    (λ on. counted_more (stand_at c.args.self.now k) (stand_at c.loop-wait.self k) (stand_at c.count_of.new.self k) i (length (slot_leaves k i (drop i ss))) (length rest) (length (slot_leaves k 0 ss))
    (ap length (left ∙ ap (λ b. cond b (i ∷ rest) rest) on)) (c.loop-wait.invariant k) (c.count_of.ensures.here k on))
    (λ off. counted_same (stand_at c.args.self.now k) (stand_at c.loop-wait.self k) (stand_at c.count_of.new.self k) i
    (length (slot_leaves k i (drop i ss))) (length rest) (length (slot_leaves k 0 ss))
    (ap length (left ∙ ap (λ b. cond b (i ∷ rest) rest) off)) (c.count_of.ensures.elsewhere k off) (c.loop-wait.invariant k))
