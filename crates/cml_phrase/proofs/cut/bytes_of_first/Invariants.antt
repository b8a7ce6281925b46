use Rattle.std.proofs.Common.{◌≡◌, ◌+◌, drop}
use Rattle.cml_phrase.specs.Shown.{bytes_of_first}
use Rattle.cml_phrase.proofs.cut.bytes_of_first.Given as goal

-- what is counted, and what is left to count
abbrev pub invariant-loop-i : goal.invariant-loop-i
invariant-loop-i l = l.i + bytes_of_first l.left (drop l.i l.bytes) ≡ bytes_of_first l.limit l.bytes
