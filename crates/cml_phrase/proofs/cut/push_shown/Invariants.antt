use Rattle.std.proofs.Common.{◌≡◌, ◌++◌, length}
use Rattle.cml_phrase.specs.Shown.{shown_bytes}
use Rattle.cml_phrase.proofs.cut.push_shown.Given as goal

-- what is written, and what is left to write
abbrev pub invariant-loop-rest : goal.invariant-loop-rest
invariant-loop-rest l = l.out.items ++ shown_bytes l.rest ≡ l.fn.out.items ++ shown_bytes l.bytes

abbrev pub decreases-loop-rest : goal.decreases-loop-rest
decreases-loop-rest l = length l.rest
