use Rattle.std.proofs.Common.{map, refl}
use Rattle.cml_hub.specs.ReadyQueue.{is_out}
use Rattle.cml_hub.specs.Kept.{Kept, NoneDue}
use Rattle.cml_hub.proofs.Keeping.{stands_ticked, moves_ticked}
use Rattle.cml_hub.proofs.hub.Hub.tick.Goals as goal

pub tick-requires : goal.tick-requires
tick-requires c =
    rw (← c.self.view_is) at c.requires.allowed

pub invariant_of-self : goal.invariant_of-self
invariant_of-self c =
    rw (c.in_err-tick.ensures.err) c.self.invariant

pub invariant_of-self-2 : goal.invariant_of-self-2
invariant_of-self-2 c =
    let s = c.self.inside in
    let h : Kept = record { course = s.course; budget = s.budget; watch = s.watch; out = map is_out s.marks.marks; queue = s.marks.queue; reports = s.reports.items } in
    let none : NoneDue h = rw (← c.self.view_is) at c.requires.due in
    stands_ticked h s.marks.marks c.args.tick c.tick.new.self s.marks.queue c.self.invariant none c.in_ok-tick.ensures.ok

pub returns-clause-moves : goal.returns-clause-moves
returns-clause-moves c =
    let s = c.self.inside in
    let h : Kept = record { course = s.course; budget = s.budget; watch = s.watch; out = map is_out s.marks.marks; queue = s.marks.queue; reports = s.reports.items } in
    rw (← c.self.view_is) (moves_ticked h c.args.tick c.tick.new.self s.marks.marks s.marks.queue c.in_ok-tick.ensures.ok)

pub returns-clause-out : goal.returns-clause-out
returns-clause-out c =
    rw (← c.self.view_is) refl

pub returns-clause-queue : goal.returns-clause-queue
returns-clause-queue c =
    rw (← c.self.view_is) refl
