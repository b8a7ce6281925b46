use Rattle.std.proofs.Common.{◌≡◌, ◌++◌, ◌∙◌, ap, sym, arith}
use Rattle.std.proofs.lemmas.List.{append-nil}
use Rattle.cml_hub.specs.ReadyQueue.{count_outs}
use Rattle.cml_hub.proofs.Homing.{all_here, none_those, marks_home}
use Rattle.cml_hub.proofs.ready_queue.ReadyQueue.call_back.Goals as goal

pub returns-then-self-eq0-clause-ok : goal.returns-then-self-eq0-clause-ok
returns-then-self-eq0-clause-ok c =
    let s = c.self.inside in
    let none : count_outs s.marks.items ≡ 0 = omega (arith, c.self.invariant.counted) in
    rw (← c.self.view_is) (sym (all_here s.marks.items none))

pub returns-then-self-eq0-clause-order : goal.returns-then-self-eq0-clause-order
returns-then-self-eq0-clause-order c =
    let s = c.self.inside in
    let none : count_outs s.marks.items ≡ 0 = omega (arith, c.self.invariant.counted) in
    rw (← c.self.view_is) (sym (ap (λ xs. s.queue.items ++ xs) (none_those 0 s.marks.items none) ∙ append-nil s.queue.items))

pub invariant_of-self-2 : goal.invariant_of-self-2
invariant_of-self-2 c =
    let s = c.self.inside in
    marks_home s.queue.items c.queue_outs.new.queue.items s.marks.items c.queue_outs.new.marks.items s.outs c.self.invariant c.queue_outs.ensures.marks c.queue_outs.ensures.queued
