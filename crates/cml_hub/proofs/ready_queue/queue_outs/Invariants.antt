use Rattle.std.proofs.Common.{◌-◌}
use Rattle.std.specs.VecDeque.{deque_len, deque_capacity}
use Rattle.cml_hub.proofs.Homing.{Homing}
use Rattle.cml_hub.proofs.ready_queue.queue_outs.Given as goal

abbrev pub invariant-loop-i : goal.invariant-loop-i
invariant-loop-i l = Homing l.fn.queue.items l.fn.marks.items l.i l.queue.items l.marks.items (deque_capacity l.queue - deque_len l.queue)
