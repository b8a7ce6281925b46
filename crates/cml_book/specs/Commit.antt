-- The command that takes a row.
use Rattle.std.specs.Prelude.{ℕ, Bool, true, false, not, List, [], ◌∷◌, Option, Some, None, Ok, slice_get, slice_set}
use Rattle.cml_value.specs.Value.{PlainValue, PlainFunction, unit, PlainBase, always, iget, mtake, mget, mswap, mail_recv, port_recv}
use Rattle.cml_value.specs.Group.{PlainGroup, never, PlainLeaf, leaves, scopes, nacks_of, lost}
use Rattle.cml_objects.specs.Handed.{handed}
use Rattle.cml_scan.specs.World.{PlainThread, running, pending_on, PlainNack, fired, held, PlainWorld}
use Rattle.cml_scan.specs.Scan.{scan, has_row}
use Rattle.cml_scan.specs.declared.meet.Meet.{Meet}
use Rattle.cml_scan.specs.declared.meet.Meet.TheVariants.{Single, Pair}
use Rattle.cml_book.specs.declared.refusal.Refusal.TheVariants.{Row}
use Rattle.cml_book.specs.declared.command.Committed.{Committed}
use Rattle.cml_book.specs.Outcomes.{Outcome, refuse_if}
use Rattle.cml_book.specs.Sync.{with_each}
use Rattle.cml_book.specs.Resumes.{PlainResume}

-- the group that a pending thread waits on; of any other thread, the group that never happens
abbrev pub awaited : Option PlainThread → PlainGroup
awaited (Some (pending_on g)) = g
awaited _ = never

-- the group that the thread of this number waits on
abbrev pub group_awaited : PlainWorld → ℕ → PlainGroup
group_awaited w t = awaited (slice_get w.threads t)

-- the base event of a leaf; without a leaf, an alwaysEvt of unit
abbrev pub base_or_unit : Option PlainLeaf → PlainBase
base_or_unit None = always unit
base_or_unit (Some l) = l.base

-- the wraps of a leaf, innermost first; without a leaf, none
abbrev pub wraps_or_none : Option PlainLeaf → List PlainFunction
wraps_or_none None = []
wraps_or_none (Some l) = l.wraps

-- what a thread waits for at this leaf
abbrev pub base_awaited : PlainWorld → ℕ → ℕ → PlainBase
base_awaited w t n = base_or_unit (slice_get (leaves (group_awaited w t)) n)

-- the value in a variable (of an empty one unit, which is never used, since it can't be taken)
abbrev pub variable_value : Option (Option PlainValue) → PlainValue
variable_value (Some (Some v)) = v
variable_value _ = unit

-- the first item of a mailbox or a port (of an empty one unit, which is never used)
abbrev pub first_of : Option (List PlainValue) → PlainValue
first_of (Some (v ∷ vs)) = v
first_of _ = unit

-- the items after the first
abbrev pub rest_of : Option (List PlainValue) → List PlainValue
rest_of (Some (v ∷ vs)) = vs
rest_of _ = []

-- The value of a base event that is taken alone: that of an alwaysEvt, that in a variable, the first item of a mailbox or a port,
-- and unit for a join, a time and a nack. Base events that are never taken alone have unit too.
abbrev pub given : PlainWorld → PlainBase → PlainValue
given w (always v) = v
given w (iget i) = variable_value (slice_get w.ivars i)
given w (mtake m) = variable_value (slice_get w.mvars m)
given w (mget m) = variable_value (slice_get w.mvars m)
given w (mswap m v) = variable_value (slice_get w.mvars m)
given w (mail_recv b) = first_of (slice_get w.mailboxes b)
given w (port_recv p) = first_of (slice_get w.ports p)
given w _ = unit

-- The world after the base event was taken alone: an mTake leaves its variable empty, an mSwap leaves its own value there, and a receive
-- from a mailbox or a port leaves the items after the first.
abbrev pub taken : PlainWorld → PlainBase → PlainWorld
taken w (mtake m) = record w { mvars = slice_set w.mvars m None }
taken w (mswap m v) = record w { mvars = slice_set w.mvars m (Some v) }
taken w (mail_recv b) = record w { mailboxes = slice_set w.mailboxes b (rest_of (slice_get w.mailboxes b)) }
taken w (port_recv p) = record w { ports = slice_set w.ports p (rest_of (slice_get w.ports p)) }
taken w _ = w

-- The base event reads a variable and leaves its value there (Reppy's iGetEvt and mGetEvt), so that what is handed over is a copy.
abbrev pub is_read : PlainBase → Bool
is_read (iget i) = true
is_read (mget m) = true
is_read _ = false

-- the value in a variable, if it is there and full
abbrev pub held_in : Option (Option PlainValue) → Option PlainValue
held_in None = None
held_in (Some value) = value

-- the copy that is handed over, where the base event reads a full variable
abbrev pub copied : PlainWorld → PlainBase → Option PlainValue
copied w (iget i) = held_in (slice_get w.ivars i)
copied w (mget m) = held_in (slice_get w.mvars m)
copied w _ = None

-- the row takes a base event that reads in this way
abbrev pub is_reading : PlainWorld → Meet → Bool
is_reading w (Single t n) = is_read (base_awaited w t.0 n)
is_reading w (Pair h i o j) = false

-- a party goes on with this value, from this leaf of its group
abbrev pub resume : PlainWorld → ℕ → ℕ → PlainValue → PlainResume
resume w t n v = record {
  thread = t;
  value = v;
  wraps = wraps_or_none (slice_get (leaves (group_awaited w t)) n);
  fired = lost (group_awaited w t) n;
}

-- What the parties of a row get: each party of a pair gets what the other hands over, and a single gets the value of its base event.
abbrev pub hands : PlainWorld → Meet → Committed
hands w (Single t n) = record { head = resume w t.0 n (given w (base_awaited w t.0 n)); partner = None }
hands w (Pair h i o j) = record {
  head = resume w h.0 i (handed (base_awaited w o.0 j));
  partner = Some (resume w o.0 j (handed (base_awaited w h.0 i)));
}

-- The nacks after the leaf of this number was chosen from the group. Of the nacks of its scopes, those that the choice fires have fired,
-- and the others are held (Reppy's withNack).
abbrev pub settled : ℕ → PlainGroup → List PlainNack → List PlainNack
settled n g nacks = with_each (lost g n) fired (with_each (nacks_of (scopes g)) held nacks)

-- the thread goes on from this leaf: it runs, and the nacks of its group are settled
abbrev pub released : PlainWorld → ℕ → ℕ → PlainWorld
released w t n = record w { threads = slice_set w.threads t running; nacks = settled n (group_awaited w t) w.nacks }

-- the world after a row was taken
abbrev pub after : PlainWorld → Meet → PlainWorld
after w (Single t n) = released (taken w (base_awaited w t.0 n)) t.0 n
after w (Pair h i o j) = released (released w h.0 i) o.0 j

-- The row is taken, if it is one of the scan; else it is refused.
abbrev pub commit : PlainWorld → Meet → Outcome Committed
commit w row = refuse_if (not (has_row (scan w) row)) Row
    (Ok (after w row, hands w row))
