use Rattle.cml_hub.proofs.Alarms.{told_alarm}
use Rattle.cml_hub.proofs.course.Course.next_alarm.Goals as goal

pub returns : goal.returns
returns c =
    rw (← c.self.view_is) (told_alarm c.self.inside.threads c.next_alarm.result c.next_alarm.ensures.alarm c.next_alarm.ensures.least c.next_alarm.ensures.none)
