use Rattle.cml_schedule.proofs.Readings.{one_reading}
use Rattle.cml_schedule.proofs.law.has_one_reading.Goals as goal

pub returns : goal.returns
returns c = one_reading c.spelled_or_faulty.ensures c.spells_one_at_most.ensures c.spelled_has_no_fault.ensures
