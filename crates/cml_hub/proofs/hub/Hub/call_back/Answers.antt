use Rattle.std.proofs.Common.{map}
use Rattle.cml_hub.specs.ReadyQueue.{is_out}
use Rattle.cml_hub.specs.Kept.{Kept}
use Rattle.cml_hub.proofs.Placing.{stands_called, called_so}
use Rattle.cml_hub.proofs.hub.Hub.call_back.Goals as goal

pub invariant_of-self : goal.invariant_of-self
invariant_of-self c =
    let s = c.self.inside in
    let h : Kept = record { course = s.course; budget = s.budget; watch = s.watch; out = map is_out s.marks.marks; queue = s.marks.queue; reports = s.reports.items } in
    stands_called h s.marks.marks c.call_back.new.self.marks c.call_back.new.self.queue c.call_back.result c.self.invariant c.call_back.ensures.ok c.call_back.ensures.err

pub returns-clause-ok : goal.returns-clause-ok
returns-clause-ok c =
    let s = c.self.inside in
    rw (← c.self.view_is) (called_so s.course s.budget s.watch s.reports.items s.marks.marks c.call_back.new.self.marks
    s.marks.queue c.call_back.new.self.queue c.call_back.result c.call_back.ensures.ok c.call_back.ensures.order)
