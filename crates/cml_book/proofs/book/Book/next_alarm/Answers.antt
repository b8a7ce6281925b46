use Rattle.cml_book.proofs.book.Book.next_alarm.Goals as goal

pub returns-clause-least : goal.returns-clause-least
returns-clause-least g c = rw (← c.self.view_is) c.next_alarm.ensures.least

pub returns-clause-none : goal.returns-clause-none
returns-clause-none g c = rw (← c.self.view_is) c.next_alarm.ensures.none
