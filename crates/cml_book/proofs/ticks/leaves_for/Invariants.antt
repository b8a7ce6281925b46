use Rattle.std.proofs.Common.{◌≡◌, ◌≤◌, take}
use Rattle.cml_value.specs.Group.{bases}
use Rattle.cml_book.specs.Keeping.{times_awaited}
use Rattle.cml_book.proofs.ticks.leaves_for.Given as goal

abbrev pub invariant-loop-n : goal.invariant-loop-n
invariant-loop-n l = (l.leaves ≡ times_awaited l.tick (take l.n (bases l.flat))) × (l.leaves ≤ l.n)
