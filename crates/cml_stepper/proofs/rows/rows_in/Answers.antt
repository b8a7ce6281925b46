use Rattle.cml_scan.proofs.Ordered.{pending_sorted}
use Rattle.cml_stepper.proofs.rows.rows_in.Goals as goal

pub rows_from-requires : goal.rows_from-requires
rows_from-requires c = rw (c.table.ensures.told) (pending_sorted c.args.book.now)
