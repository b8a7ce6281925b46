use Rattle.std.proofs.Common.{arith, sym, ◌∙◌, ◌<◌, length, refl}
use Rattle.cml_hub.specs.declared.ready_queue.Mark.TheVariants.{Out}
use Rattle.cml_hub.proofs.MarkLemmas.{got_is, out_counted}
use Rattle.cml_hub.proofs.Homing.{homing_length, homing_out, homing_here, home_here, homing_done, homing_order}
use Rattle.cml_hub.proofs.ready_queue.queue_outs.Goals.{in-Out, in-Ready}
use Rattle.cml_hub.proofs.ready_queue.queue_outs.Goals as goal

pub push_back_reserved-requires : goal.push_back_reserved-requires
push_back_reserved-requires c =
    let ms = c.loop-i.marks.items in
    let same = homing_length _ _ _ _ _ _ c.loop-i.invariant in
    let lt : c.loop-i.i < length ms = omega (arith, same) in
    let some = out_counted ms c.loop-i.i (got_is ms c.loop-i.i c.index.result.now Out lt (sym c.in-Out.is ∙ c.index.ensures)) in
    omega (arith, some, c.loop-i.invariant.room_left)

pub loop-i-preserved : goal.loop-i-preserved
loop-i-preserved c =
    let ms = c.loop-i.marks.items in
    let same = homing_length _ _ _ _ _ _ c.loop-i.invariant in
    let lt : c.loop-i.i < length ms = omega (arith, same) in
    elim c.match-index.branch [
      | in-Out w ↦ (
          let got = got_is ms c.loop-i.i c.index.result.now Out lt (sym w.in-Out.is ∙ c.index.ensures) in
          let some = out_counted ms c.loop-i.i got in
          let left = c.loop-i.invariant.room_left in
          let pushed = w.push_back_reserved.ensures in
          rw (w.queue-is, w.marks-is, pushed.items)
          (homing_out c.args.queue.now.items c.args.marks.now.items c.loop-i.i c.loop-i.queue.items ms _ _ _
          c.loop-i.invariant got refl (omega (arith, some, left, pushed.len, pushed.capacity)))
          )
      | in-Ready w ↦ (
          let got = got_is ms c.loop-i.i c.index.result.now c.index.result.now lt c.index.ensures in
          rw (w.queue-is, w.marks-is) (homing_here c.args.queue.now.items c.args.marks.now.items c.loop-i.i
          c.loop-i.queue.items ms _ c.index.result.now c.loop-i.invariant got
          (home_here c.index.result.now w.in-Ready.is))
          )
    ]

pub returns-clause-marks : goal.returns-clause-marks
returns-clause-marks c =
    homing_done c.args.queue.now.items c.args.marks.now.items c.loop-i.i c.loop-i.queue.items c.loop-i.marks.items _ c.loop-i.invariant (omega arith)

pub returns-clause-order : goal.returns-clause-order
returns-clause-order c =
    homing_order c.args.queue.now.items c.args.marks.now.items c.loop-i.i c.loop-i.queue.items c.loop-i.marks.items _ c.loop-i.invariant (omega arith)
