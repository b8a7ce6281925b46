use Rattle.cml_work.proofs.locked.Locked.tell.Given as goal

-- the list is the hub's reports
abbrev pub ghosts-learn : goal.ghosts-learn
ghosts-learn g a = record { list = a.list.now }
