use Rattle.std.proofs.Common.{◌≡◌, drop}
use Rattle.cml_system.specs.Files.{content_under}
use Rattle.cml_system.proofs.memory.find.Given as goal

-- the name is not that of a file before
abbrev pub invariant-loop-file : goal.invariant-loop-file
invariant-loop-file l = content_under (drop l.file-index l.files) l.name ≡ content_under l.files l.name
