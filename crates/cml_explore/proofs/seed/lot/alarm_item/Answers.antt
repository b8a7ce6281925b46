use Rattle.std.proofs.Common.{ap, sym, ◌∙◌}
use Rattle.std.specs.Prelude.{option_map}
use Rattle.cml_schedule.specs.declared.item.Item.TheVariants.{Clock}
use Rattle.cml_hub.specs.Runs.{next_alarm}
use Rattle.cml_hub.proofs.Alarms.{told_alarm}
use Rattle.cml_explore.proofs.seed.lot.alarm_item.Goals as goal

pub returns-in-Some : goal.returns-in-Some
returns-in-Some c =
    ap (option_map Clock) (sym c.in-Some.is
    ∙ (told_alarm c.book.result.now c.next_alarm.result c.next_alarm.ensures.alarm c.next_alarm.ensures.least c.next_alarm.ensures.none ∙ ap next_alarm c.book.ensures))

pub returns-in-None : goal.returns-in-None
returns-in-None c =
    ap (option_map Clock) (sym c.in-None.is
    ∙ (told_alarm c.book.result.now c.next_alarm.result c.next_alarm.ensures.alarm c.next_alarm.ensures.least c.next_alarm.ensures.none ∙ ap next_alarm c.book.ensures))
