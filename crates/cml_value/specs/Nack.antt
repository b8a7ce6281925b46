-- The states of a nack.
use Rattle.std.specs.Prelude.{ℕ}

-- A nack is fresh until its owner, the thread that asked for it, waits on a group that has its branch; live while that group is pending;
-- and fired where the group chose an event outside the branch, held where it chose one inside (Reppy's withNack).
pub data PlainNack : Type 0 where
  fresh_of : ℕ → PlainNack
  live : PlainNack
  fired : PlainNack
  held : PlainNack
