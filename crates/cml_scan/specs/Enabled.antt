-- Which communications are possible, said of one row at a time, by what the threads wait on: those of Concurrent ML, and the swap, which
-- is a base event of this project's own.
use Rattle.std.specs.Prelude.{ℕ, ◌≡◌, ◌≢◌, ◌<◌, ◌⊎◌, true, Option, Some, None, slice_get}
use Rattle.cml_value.specs.Value.{PlainValue, PlainBase, send, recv, swap}
use Rattle.cml_value.specs.Group.{bases}
use Rattle.cml_value.specs.declared.number.Tid.{Tid}
use Rattle.cml_scan.specs.World.{PlainThread, running, pending_on, ended, PlainWorld}
use Rattle.cml_scan.specs.Light.{lit}
use Rattle.cml_scan.specs.declared.meet.Meet.{Meet}
use Rattle.cml_scan.specs.declared.meet.Meet.TheVariants.{Single, Pair}

-- the base event of this leaf of a thread's group, if the thread is pending and its group has the leaf
abbrev pub leaf_of : Option PlainThread → ℕ → Option PlainBase
leaf_of None leaf = None
leaf_of (Some running) leaf = None
leaf_of (Some (pending_on g)) leaf = slice_get (bases g) leaf
leaf_of (Some ended) leaf = None

-- the thread is pending, and this is the base event of this leaf of its group
abbrev pub WaitsFor : PlainWorld → Tid → ℕ → PlainBase → Type 0
WaitsFor w tid leaf b = leaf_of (slice_get w.threads tid.0) leaf ≡ Some b

-- the first sends on a channel on which the second receives, and they are of two different threads
abbrev pub IsSent : PlainWorld → Tid → ℕ → Tid → ℕ → Type 0
IsSent w head head_leaf other other_leaf =
    (c : ℕ) × (v : PlainValue) × WaitsFor w head head_leaf (send c v) × WaitsFor w other other_leaf (recv c) × (head.0 ≢ other.0)

-- both swap on one swap channel, the first in the lower thread
abbrev pub IsSwapped : PlainWorld → Tid → ℕ → Tid → ℕ → Type 0
IsSwapped w head head_leaf other other_leaf =
    (s : ℕ) × (v u : PlainValue) × WaitsFor w head head_leaf (swap s v) × WaitsFor w other other_leaf (swap s u) × (head.0 < other.0)

-- A leaf alone is enabled where its base event is lit; two leaves are where the first sends to the second, or where they swap values.
abbrev pub IsEnabled : PlainWorld → Meet → Type 0
IsEnabled w (Single tid leaf) = (b : PlainBase) × WaitsFor w tid leaf b × (lit w b ≡ true)
IsEnabled w (Pair head head_leaf other other_leaf) = IsSent w head head_leaf other other_leaf ⊎ IsSwapped w head head_leaf other other_leaf
