use Rattle.std.proofs.Common.{sym, ◌∙◌}
use Rattle.cml_objects.proofs.Ticks.{first_waited, first_least, none_above}
use Rattle.cml_objects.proofs.clock.Clock.next_alarm.Goals as goal

pub returns-in-Some-clause-waited : goal.returns-in-Some-clause-waited
returns-in-Some-clause-waited c = rw (← c.self.view_is)
    (first_waited c.self.inside.waited.entries c.self.inside.tick c.in-Some.tick.now c.in-Some.field-0-1.now
    c.next.new.self (sym (c.range.ensures.between tt) ∙ c.in-Some.ensures.steps) c.self.invariant)

pub returns-in-Some-clause-least : goal.returns-in-Some-clause-least
returns-in-Some-clause-least c = rw (← c.self.view_is)
    (first_least c.self.inside.waited.entries c.self.inside.tick c.in-Some.tick.now c.in-Some.field-0-1.now
    c.next.new.self (sym (c.range.ensures.between tt) ∙ c.in-Some.ensures.steps) c.self.invariant
    c.range.ensures.ordered)

pub returns-in-None-clause-none : goal.returns-in-None-clause-none
returns-in-None-clause-none c = rw (← c.self.view_is) (none_above c.self.inside.waited.entries c.self.inside.tick (sym (c.range.ensures.between tt) ∙ c.in-None.ensures.steps.0) c.self.invariant)
