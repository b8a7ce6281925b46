use Rattle.std.proofs.Common.{length, map, Some}
use Rattle.cml_hub.specs.ReadyQueue.{is_out}
use Rattle.cml_hub.specs.Kept.{Kept, NoneDue}
use Rattle.cml_hub.specs.Reports.{IsDueReport}
use Rattle.cml_hub.proofs.Reporting.{stands_reported, reported_one, reported_none}
use Rattle.cml_hub.proofs.hub.Hub.report_watched.Goals as goal

pub invariant_of-self : goal.invariant_of-self
invariant_of-self c =
    rw (c.due.ensures.items) c.self.invariant

pub push_reserved-requires : goal.push_reserved-requires
push_reserved-requires c =
    rw (c.in-Some.is) at c.in_ok-report.ensures.room

pub invariant_of-self-in-Some : goal.invariant_of-self-in-Some
invariant_of-self-in-Some c =
    let s = c.self.inside in
    let h : Kept = record { course = s.course; budget = s.budget; watch = s.watch; out = map is_out s.marks.marks; queue = s.marks.queue; reports = s.reports.items } in
    let due : IsDueReport s.watch (length s.course.items) (length s.reports.items) s.course.world (Some c.in-Some.report) = rw (c.in-Some.is) at c.in_ok-report.ensures.due in
    rw (c.push_reserved.ensures.items, c.due.ensures.items) (stands_reported h s.marks.marks c.in-Some.report c.self.invariant c.due.ensures.leads due)

pub invariant_of-self-in_default : goal.invariant_of-self-in_default
invariant_of-self-in_default c =
    rw (c.due.ensures.items) c.self.invariant

pub returns-in-Some-clause-ok : goal.returns-in-Some-clause-ok
returns-in-Some-clause-ok c =
    let s = c.self.inside in
    let h : Kept = record { course = s.course; budget = s.budget; watch = s.watch; out = map is_out s.marks.marks; queue = s.marks.queue; reports = s.reports.items } in
    let due : IsDueReport s.watch (length s.course.items) (length s.reports.items) s.course.world (Some c.in-Some.report) = rw (c.in-Some.is) at c.in_ok-report.ensures.due in
    rw (← c.self.view_is, c.push_reserved.ensures.items, c.due.ensures.items) (reported_one h c.in-Some.report c.self.invariant.watched due)

pub returns-in_default-clause-ok : goal.returns-in_default-clause-ok
returns-in_default-clause-ok c =
    let s = c.self.inside in
    let h : Kept = record { course = s.course; budget = s.budget; watch = s.watch; out = map is_out s.marks.marks; queue = s.marks.queue; reports = s.reports.items } in
    let none : NoneDue h = rw (c.in_default.is) at c.in_ok-report.ensures.due in
    rw (← c.self.view_is, c.due.ensures.items) (reported_none h none)
