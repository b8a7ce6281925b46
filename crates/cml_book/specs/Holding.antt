-- What an object of a world holds.
use Rattle.std.specs.Prelude.{ℕ, List, Option, None, slice_get}
use Rattle.std.specs.Option.{option_and_then}
use Rattle.cml_value.specs.Value.{PlainValue}
use Rattle.cml_scan.specs.World.{PlainWorld}
use Rattle.cml_scan.specs.declared.object.Light.{Light}
use Rattle.cml_scan.specs.declared.object.Light.TheVariants as of
use Rattle.cml_book.specs.Commit.{held_in}

-- the first item of a mailbox or a port, if it is there and has one
abbrev pub first_in : Option (List PlainValue) → Option PlainValue
first_in items = option_and_then (λ vs. slice_get vs 0) items

-- item `n` of a mailbox or a port, the first being 0, if it is there and has so many
abbrev pub item_in : ℕ → Option (List PlainValue) → Option PlainValue
item_in n items = option_and_then (λ vs. slice_get vs n) items

-- The value that an object gives next, if it holds one: that in a variable, the first item of a mailbox or a port. A thread, a tick and
-- a nack hold none.
abbrev pub value_at : PlainWorld → Light → Option PlainValue
value_at w (of.IVar i) = held_in (slice_get w.ivars i.0)
value_at w (of.MVar m) = held_in (slice_get w.mvars m.0)
value_at w (of.Mbox b) = first_in (slice_get w.mailboxes b.0)
value_at w (of.Port p) = first_in (slice_get w.ports p.0)
value_at w (of.Joined t) = None
value_at w (of.Alarm t) = None
value_at w (of.Nack k) = None
