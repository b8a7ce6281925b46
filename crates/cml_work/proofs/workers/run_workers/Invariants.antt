use Rattle.cml_work.specs.Picks.{picker}
use Rattle.cml_work.specs.Works.{opening_of}
use Rattle.cml_work.proofs.workers.run_workers.Given as goal

-- the run's own hub is the opening
abbrev pub ghosts-run_over : goal.ghosts-run_over
ghosts-run_over g a = record { opening = opening_of a.hub; board = a.board.table.shared.table_id; picks = picker (record { picks = g.C.Chooser.picks; next = g.C.Chooser.next }) a.chooser }
