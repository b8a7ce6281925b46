use Rattle.cml_hub.proofs.Alarms.{told_alarm}
use Rattle.cml_facts.proofs.narrative.why.next_tick.Goals as goal

pub returns : goal.returns
returns c = told_alarm c.args.book.now c.next_alarm.result c.next_alarm.ensures.alarm c.next_alarm.ensures.least c.next_alarm.ensures.none
