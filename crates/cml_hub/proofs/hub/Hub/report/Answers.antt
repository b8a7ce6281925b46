use Rattle.std.proofs.Common.{map}
use Rattle.cml_hub.specs.ReadyQueue.{is_out}
use Rattle.cml_hub.specs.Kept.{Kept, NoneDue}
use Rattle.cml_hub.proofs.Reporting.{reported_none}
use Rattle.cml_hub.proofs.hub.Hub.report.Goals as goal

pub returns-in-None-clause-ok : goal.returns-in-None-clause-ok
returns-in-None-clause-ok c =
    let s = c.self.inside in
    let h : Kept = record { course = s.course; budget = s.budget; watch = s.watch; out = map is_out s.marks.marks; queue = s.marks.queue; reports = s.reports.items } in
    let none : NoneDue h = rw (c.in-None.is) (λ d. d) in
    rw (← c.self.view_is) (reported_none h none)
