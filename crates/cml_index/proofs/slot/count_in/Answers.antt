use Rattle.std.proofs.Common.{◌≡◌, ◌+◌, ◌∷◌, length, map, drop, cond, ap, ◌∙◌, arith}
use Rattle.cml_index.specs.Slots.{slot_in, slot_leaves}
use Rattle.cml_index.proofs.Walks.{leaves_left_by}
use Rattle.cml_index.proofs.slot.count_in.Goals as goal
use Rattle.cml_index.proofs.slot.count_in.Goals.{then-stands_in, else-stands_in}

pub loop-wait-preserved : goal.loop-wait-preserved
loop-wait-preserved c =
    let i = c.loop-wait.wait-index in
    let rest = slot_leaves c.args.slot (i + 1) (drop (i + 1) (map slot_in c.args.waits.now)) in
    let left : slot_leaves c.args.slot i (drop i (map slot_in c.args.waits.now))
    ≡ cond c.stands_in.result (i ∷ rest) rest = leaves_left_by c.args.slot c.args.waits.now i c.stands_in.result
    _ c.loop-wait-test.true c.stands_in.ensures in
    elim c.if-stands_in.branch [
      | then-stands_in w ↦ let one : length (slot_leaves c.args.slot i (drop i (map slot_in c.args.waits.now))) ≡ length (i ∷ rest) = ap length (left ∙ ap
          (λ b. cond b (i ∷ rest) rest) w.if-stands_in.true) in
          record { count = omega (arith, one, w.count-is, c.loop-wait.invariant.count); few = omega (arith, w.count-is, c.loop-wait.invariant.few) }
      | else-stands_in w ↦ let one : length (slot_leaves c.args.slot i (drop i (map slot_in c.args.waits.now))) ≡ length rest = ap length (left ∙ ap
          (λ b. cond b (i ∷ rest) rest) w.if-stands_in.false) in
          record { count = omega (arith, one, w.count-is, c.loop-wait.invariant.count); few = omega (arith, w.count-is, c.loop-wait.invariant.few) }
    ]
