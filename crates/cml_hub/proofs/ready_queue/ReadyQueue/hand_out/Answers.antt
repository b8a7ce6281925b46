use Rattle.std.proofs.Common.{arith, refl}
use Rattle.std.proofs.lemmas.Option.{slice_get_within}
use Rattle.cml_hub.specs.declared.ready_queue.Mark.TheVariants.{Ready, Out}
use Rattle.cml_hub.proofs.MarkLemmas.{queued_once, marks_left, few_out}
use Rattle.cml_hub.proofs.ready_queue.ReadyQueue.hand_out.Goals as goal

pub unqueue-requires : goal.unqueue-requires
unqueue-requires c =
    let s = c.self.inside in
    queued_once s.queue.items s.marks.items s.outs c.args.thread.0 c.self.invariant (rw (← c.self.view_is) at c.requires)

pub index_mut-requires : goal.index_mut-requires
index_mut-requires c =
    let s = c.self.inside in
    let at = slice_get_within s.marks.items c.args.thread.0 Ready (rw (← c.self.view_is) at c.requires) in
    omega arith

pub overflow_add-self : goal.overflow_add-self
overflow_add-self c =
    let s = c.self.inside in
    let few = few_out s.marks.items in
    omega (arith, c.self.invariant.counted)

pub invariant_of-self : goal.invariant_of-self
invariant_of-self c =
    let s = c.self.inside in
    marks_left s.queue.items c.unqueue.new.queue.items s.marks.items s.outs c.args.thread.0 Out c.self.invariant (rw (← c.self.view_is) at c.requires) refl c.unqueue.ensures.others
