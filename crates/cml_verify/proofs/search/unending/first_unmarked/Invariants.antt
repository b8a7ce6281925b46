use Rattle.std.proofs.Common.{◌<◌, ℕ}
use Rattle.cml_verify.specs.Marks.{IsMarked}
use Rattle.cml_verify.proofs.search.unending.first_unmarked.Given as goal

abbrev pub invariant-loop-k : goal.invariant-loop-k
invariant-loop-k l = (k : ℕ) → k < l.k → IsMarked l.marks k
