use Rattle.cml_schedule.proofs.WrittenLemmas.{written_is_read}
use Rattle.cml_schedule.proofs.law.written_is_read.Goals as goal

pub returns : goal.returns
returns c = written_is_read (record { read = c.printed_line_is_read.ensures; one = c.printed_line_is_one_line.ensures; first = c.written_line_is_first.ensures })
