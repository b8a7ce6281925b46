use Rattle.std.proofs.Common.{◌≡◌, ◌+◌, ℕ, take}
use Rattle.cml_value.specs.Group.{bases}
use Rattle.cml_objects.specs.Clocks.{leaves_at}
use Rattle.cml_book.specs.Keeping.{times_awaited}
use Rattle.cml_book.proofs.ticks.uncount_ticks.Given as goal

abbrev pub invariant-loop-n : goal.invariant-loop-n
invariant-loop-n l = record {
  left : (t : ℕ) → leaves_at l.clock.waited t + times_awaited t (take l.n (bases l.flat)) ≡ leaves_at l.fn.clock.waited t;
  now : l.clock.tick ≡ l.fn.clock.tick;
}
