use Rattle.std.proofs.Common.{map, refl, sym, ap, ◌∙◌}
use Rattle.cml_step.specs.Machines.{PlainMachine}
use Rattle.cml_hub.specs.ReadyQueue.{is_out}
use Rattle.cml_hub.specs.Kept.{Kept}
use Rattle.cml_hub.proofs.Marking.{all_out, ready_running}
use Rattle.cml_hub.proofs.Onward.{stands_handed, handed_out}
use Rattle.cml_hub.proofs.Queueing.{leaves_first}
use Rattle.cml_hub.proofs.hub.Hub.hand_out.Goals as goal

pub returns-in_default-clause-ok : goal.returns-in_default-clause-ok
returns-in_default-clause-ok c =
    let s = c.self.inside in
    rw (← c.self.view_is) ((λ t run. all_out s.course.world.threads s.marks.marks t c.self.invariant.placed (c.in_default.ensures.ready t) run), refl)

pub machine-requires : goal.machine-requires
machine-requires c =
    let s = c.self.inside in
    ready_running s.course.world.threads s.marks.marks c.in-Some.thread.0 c.self.invariant.placed c.in-Some.ensures.ready

pub hand_out-requires : goal.hand_out-requires
hand_out-requires c =
    c.in-Some.ensures.ready

pub invariant_of-self : goal.invariant_of-self
invariant_of-self c =
    let s = c.self.inside in
    let h : Kept = record { course = s.course; budget = s.budget; watch = s.watch; out = map is_out s.marks.marks; queue = s.marks.queue; reports = s.reports.items } in
    rw (c.hand_out.ensures.marks) (stands_handed h s.marks.marks c.in-Some.thread.0 c.hand_out.new.self.queue c.self.invariant c.in-Some.ensures.ready)

pub returns-clause-ok : goal.returns-clause-ok
returns-clause-ok c =
    let s = c.self.inside in
    rw (← c.self.view_is, c.hand_out.ensures.marks)
    (handed_out s.course s.budget s.watch s.reports.items s.marks.marks s.marks.queue c.hand_out.new.self.queue
    c.in-Some.thread.0 c.in_ok-machine.machine c.machine.result.now c.in-Some.ensures.ready c.machine.ensures.keeps
    c.machine.ensures.stands c.machine.ensures.thread c.in_ok-machine.ensures c.hand_out.ensures.queue)

pub returns-in_default-clause-first : goal.returns-in_default-clause-first
returns-in_default-clause-first c = rw (← c.self.view_is) (sym c.in_default.is ∙ c.front.ensures.first)

pub returns-clause-first : goal.returns-clause-first
returns-clause-first c =
    let s = c.self.inside in
    rw (← c.self.view_is) (leaves_first c.in-Some.thread s.marks.queue c.hand_out.new.self.queue c.in_ok-machine.machine.thread
    (sym c.in-Some.is ∙ c.front.ensures.first) (ap (λ (m : PlainMachine). m.thread) c.in_ok-machine.ensures ∙ c.machine.ensures.thread) c.hand_out.ensures.queue)
