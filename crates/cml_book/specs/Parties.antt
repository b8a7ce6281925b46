-- A party of a row that is taken.
use Rattle.std.specs.Prelude.{ℕ, ◌≡◌, ◌<◌, List, Some, slice_get}
use Rattle.cml_value.specs.Group.{PlainGroup, leaf_count, scopes, nacks_of}
use Rattle.cml_scan.specs.World.{PlainThread, pending_on, PlainNack}
use Rattle.cml_book.specs.Keeping.{AreLiveNacks}

-- the thread waits on this group, which has the leaf and whose nacks are live
pub record WaitsOn (ts : List PlainThread) (ns : List PlainNack) (t leaf : ℕ) (g : PlainGroup) : Type 0 where
  pub waits : slice_get ts t ≡ Some (pending_on g)
  pub within : leaf < leaf_count g
  pub alive : AreLiveNacks (nacks_of (scopes g)) ns
