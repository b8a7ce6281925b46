-- Which lights are turned off when the parties of a row leave, and which are turned on when the clock moves.
use Rattle.std.specs.Prelude.{ℕ, ◌+◌, ◌==◌, ◌&&◌, nat_lt, nat_le, Bool, true, false, List, [], ◌∷◌, Option, Some, None, slice_get}
use Rattle.std.specs.Borrow.{Bor}
use Rattle.cml_value.specs.Value.{PlainBase, iget, mtake, mget, mswap, mail_recv, port_recv, at_tick}
use Rattle.cml_value.specs.Group.{PlainGroup, bases}
use Rattle.cml_scan.specs.World.{PlainWorld}
use Rattle.cml_scan.specs.Light.{is_full, has_item}
use Rattle.cml_scan.specs.declared.object.Light.{Light}
use Rattle.cml_scan.specs.declared.object.Light.TheVariants as of
use Rattle.cml_book.specs.Commit.{rest_of}
use Rattle.cml_book.specs.Keeping.{times_awaited}

-- the light is that of a tick that comes when the clock moves from the first tick to the second
abbrev pub comes : ℕ → ℕ → Light → Bool
comes from to (of.Alarm t) = nat_lt from t && nat_le t to
comes from to _ = false

-- the bases of a group, if there is one
abbrev pub bases_of : Option (Bor PlainGroup) → List PlainBase
bases_of None = []
bases_of (Some g) = bases g.now

-- The base event waits for a tick, and each base event of `all` that waits for this tick is one of `xs` or of `ys`.
abbrev pub is_left : List PlainBase → List PlainBase → List PlainBase → PlainBase → Bool
is_left all xs ys (at_tick t) = times_awaited t all == times_awaited t xs + times_awaited t ys
is_left all xs ys _ = false

-- the light, where no item is left
abbrev pub unless_item : Bool → Light → List Light
unless_item true l = []
unless_item false l = l ∷ []

-- the object that the base takes a value from, if there is one, has one
abbrev pub can_give : PlainWorld → PlainBase → Bool
can_give w (iget i) = is_full (slice_get w.ivars i)
can_give w (mtake m) = is_full (slice_get w.mvars m)
can_give w (mget m) = is_full (slice_get w.mvars m)
can_give w (mswap m v) = is_full (slice_get w.mvars m)
can_give w (mail_recv b) = has_item (slice_get w.mailboxes b)
can_give w (port_recv p) = has_item (slice_get w.ports p)
can_give w _ = true

-- The light that is turned off when the base is taken alone: a take empties an M-variable, and a receive may empty a mailbox or a port.
abbrev pub turned_off : PlainWorld → PlainBase → List Light
turned_off w (mtake m) = of.MVar (record { 0 = m }) ∷ []
turned_off w (mail_recv b) = unless_item (has_item (Some (rest_of (slice_get w.mailboxes b)))) (of.Mbox (record { 0 = b }))
turned_off w (port_recv p) = unless_item (has_item (Some (rest_of (slice_get w.ports p)))) (of.Port (record { 0 = p }))
turned_off w _ = []
