use Rattle.cml_work.specs.Picks.{picker}
use Rattle.cml_work.specs.Works.{opening_of}
use Rattle.cml_work.proofs.workers.run_watched.Given as goal

-- the run's own hub is the opening
abbrev pub ghosts-watch_over : goal.ghosts-watch_over
ghosts-watch_over g a = record { opening = opening_of a.hub; board = a.board.table.shared.table_id; picks = picker (record { picks = g.C.Chooser.picks; next = g.C.Chooser.next }) a.chooser }
