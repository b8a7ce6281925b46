use Rattle.std.proofs.Common.{◌≡◌, map, take}
use Rattle.cml_host.specs.Exploring.{files_from}
use Rattle.cml_host.specs.Replies.{plain_file}
use Rattle.cml_host.proofs.explore.class_files.Given as goal

-- the files of the classes so far
abbrev pub invariant-loop-index : goal.invariant-loop-index
invariant-loop-index l = map plain_file l.files.items ≡ files_from l.start l.budget l.program l.classes 1 (take l.index l.numbers)
