use Rattle.cml_book.proofs.Awaited.{alarm_there, alarm_least, alarm_none}
use Rattle.cml_book.proofs.state.State.next_alarm.Goals as goal

pub returns-clause-alarm : goal.returns-clause-alarm
returns-clause-alarm c = rw (← c.self.view_is) (alarm_there _ c.self.inside.clock c.self.invariant.3 _ c.next_alarm.ensures.waited c.next_alarm.ensures.above)

pub returns-clause-least : goal.returns-clause-least
returns-clause-least c = rw (← c.self.view_is) (alarm_least _ c.self.inside.clock c.self.invariant.3 _ c.next_alarm.ensures.least)

pub returns-clause-none : goal.returns-clause-none
returns-clause-none c = rw (← c.self.view_is) (alarm_none _ c.self.inside.clock c.self.invariant.3 _ c.next_alarm.ensures.none)
