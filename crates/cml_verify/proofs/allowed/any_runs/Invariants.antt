use Rattle.std.proofs.Common.{◌≡◌, false, take}
use Rattle.std.specs.List.{list_any}
use Rattle.cml_book.specs.Walks.{runs}
use Rattle.cml_verify.proofs.allowed.any_runs.Given as goal

abbrev pub invariant-loop-t : goal.invariant-loop-t
invariant-loop-t l = list_any runs (take l.t l.book.threads) ≡ false
