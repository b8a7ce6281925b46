use Rattle.std.proofs.Common.{◌<◌, ◌-◌, ◌∙◌, add-zero, sym, arith, refl, length}
use Rattle.cml_hub.specs.declared.ready_queue.Mark.TheVariants.{Ready, Out, NotRunning}
use Rattle.cml_hub.proofs.MarkLemmas.{queued_once, marks_left, marks_back, got_is, out_counted, not_queued}
use Rattle.cml_hub.proofs.Queueing.{left_none}
use Rattle.cml_hub.proofs.ready_queue.ReadyQueue.set_not_running.Goals as goal

pub unqueue-requires : goal.unqueue-requires
unqueue-requires c =
    let s = c.self.inside in
    let lt : c.args.thread.0 < length s.marks.items = rw (← c.self.view_is) at c.requires in
    let at = got_is s.marks.items c.args.thread.0 c.index.result.now Ready lt (sym c.in-Ready.is ∙ c.index.ensures) in
    queued_once s.queue.items s.marks.items s.outs c.args.thread.0 c.self.invariant at

pub invariant_of-self : goal.invariant_of-self
invariant_of-self c =
    let s = c.self.inside in
    let lt : c.args.thread.0 < length s.marks.items = rw (← c.self.view_is) at c.requires in
    let at = got_is s.marks.items c.args.thread.0 c.index.result.now Ready lt (sym c.in-Ready.is ∙ c.index.ensures) in
    rw (← add-zero s.outs)
    (marks_left s.queue.items c.unqueue.new.queue.items s.marks.items s.outs c.args.thread.0 NotRunning c.self.invariant at refl c.unqueue.ensures.others)

pub overflow_sub-self : goal.overflow_sub-self
overflow_sub-self c =
    let s = c.self.inside in
    let lt : c.args.thread.0 < length s.marks.items = rw (← c.self.view_is) at c.requires in
    let at = got_is s.marks.items c.args.thread.0 c.index.result.now Out lt (sym c.in-Out.is ∙ c.index.ensures) in
    let some = out_counted s.marks.items c.args.thread.0 at in
    omega (arith, c.self.invariant.counted)

pub invariant_of-self-in-Out : goal.invariant_of-self-in-Out
invariant_of-self-in-Out c =
    let s = c.self.inside in
    let lt : c.args.thread.0 < length s.marks.items = rw (← c.self.view_is) at c.requires in
    let at = got_is s.marks.items c.args.thread.0 c.index.result.now Out lt (sym c.in-Out.is ∙ c.index.ensures) in
    let some = out_counted s.marks.items c.args.thread.0 at in
    marks_back s.queue.items s.marks.items s.outs (s.outs - 1) c.args.thread.0 Out c.self.invariant at refl (omega (arith, c.self.invariant.counted))

pub returns-in-Out-clause-queue : goal.returns-in-Out-clause-queue
returns-in-Out-clause-queue c =
    let s = c.self.inside in
    let lt : c.args.thread.0 < length s.marks.items = rw (← c.self.view_is) at c.requires in
    let at = got_is s.marks.items c.args.thread.0 c.index.result.now Out lt (sym c.in-Out.is ∙ c.index.ensures) in
    rw (← c.self.view_is) (sym (left_none c.args.thread.0 s.queue.items (not_queued s.queue.items s.marks.items s.outs c.args.thread.0 Out c.self.invariant at refl)))

pub returns-in-NotRunning-clause-queue : goal.returns-in-NotRunning-clause-queue
returns-in-NotRunning-clause-queue c =
    let s = c.self.inside in
    let lt : c.args.thread.0 < length s.marks.items = rw (← c.self.view_is) at c.requires in
    let at = got_is s.marks.items c.args.thread.0 c.index.result.now NotRunning lt (sym c.in-NotRunning.is ∙ c.index.ensures) in
    rw (← c.self.view_is) (sym (left_none c.args.thread.0 s.queue.items (not_queued s.queue.items s.marks.items s.outs c.args.thread.0 NotRunning c.self.invariant at refl)))
