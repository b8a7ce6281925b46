-- Which base events can be taken alone. Such a base is lit, and whether it is depends on the state of one object at most.
use Rattle.std.specs.Prelude.{Bool, true, false, nat_le, ◌||◌, List, ◌∷◌, Option, Some, None, slice_get}
use Rattle.cml_value.specs.Value.{PlainValue, PlainBase, always, send, recv, swap, iget, mtake, mget, mswap, mail_recv, port_recv, join, at_tick, after_ticks, nack}
use Rattle.cml_scan.specs.World.{PlainThread, ended, PlainNack, fired, PlainWorld}
use Rattle.cml_scan.specs.declared.object.Light.{Light}
use Rattle.cml_scan.specs.declared.object.Light.TheVariants as of

-- a variable is there and full
abbrev pub is_full : Option (Option PlainValue) → Bool
is_full (Some (Some v)) = true
is_full _ = false

-- a mailbox or a port is there and has an item
abbrev pub has_item : Option (List PlainValue) → Bool
has_item (Some (v ∷ vs)) = true
has_item _ = false

-- a thread is there and has ended
abbrev pub has_ended : Option PlainThread → Bool
has_ended (Some ended) = true
has_ended _ = false

-- a nack is there and has fired
abbrev pub has_fired : Option PlainNack → Bool
has_fired (Some fired) = true
has_fired _ = false

-- Whether the base event can be taken alone. An alwaysEvt always can. A take, get or swap of a variable can if the variable is full. A
-- receive from a mailbox or a port can if an item is there. A join can if the thread has ended, an atTimeEvt if its tick has come, and a
-- nack event if the nack has fired. A send or a receive on a channel never can, and neither can a swap on a swap channel: each needs a
-- partner. (No afterEvt stands in a pending group.)
abbrev pub lit : PlainWorld → PlainBase → Bool
lit w (always v) = true
lit w (send c v) = false
lit w (recv c) = false
lit w (swap s v) = false
lit w (iget i) = is_full (slice_get w.ivars i)
lit w (mtake m) = is_full (slice_get w.mvars m)
lit w (mget m) = is_full (slice_get w.mvars m)
lit w (mswap m v) = is_full (slice_get w.mvars m)
lit w (mail_recv b) = has_item (slice_get w.mailboxes b)
lit w (port_recv p) = has_item (slice_get w.ports p)
lit w (join t) = has_ended (slice_get w.threads t)
lit w (at_tick t) = nat_le t w.tick
lit w (after_ticks d) = false
lit w (nack k) = has_fired (slice_get w.nacks k)

-- The light of a base event: the object, thread, tick or nack whose state says whether the base event can be taken alone. There is none if
-- no state says it.
abbrev pub light : PlainBase → Option Light
light (always v) = None
light (send c v) = None
light (recv c) = None
light (swap s v) = None
light (iget i) = Some (of.IVar (record { 0 = i }))
light (mtake m) = Some (of.MVar (record { 0 = m }))
light (mget m) = Some (of.MVar (record { 0 = m }))
light (mswap m v) = Some (of.MVar (record { 0 = m }))
light (mail_recv b) = Some (of.Mbox (record { 0 = b }))
light (port_recv p) = Some (of.Port (record { 0 = p }))
light (join t) = Some (of.Joined (record { 0 = t }))
light (at_tick t) = Some (of.Alarm t)
light (after_ticks d) = None
light (nack k) = Some (of.Nack (record { 0 = k }))

-- whether the light is lit in the world
abbrev pub light_of : PlainWorld → Light → Bool
light_of w (of.IVar i) = is_full (slice_get w.ivars i.0)
light_of w (of.MVar m) = is_full (slice_get w.mvars m.0)
light_of w (of.Mbox b) = has_item (slice_get w.mailboxes b.0)
light_of w (of.Port p) = has_item (slice_get w.ports p.0)
light_of w (of.Joined t) = has_ended (slice_get w.threads t.0)
light_of w (of.Alarm t) = nat_le t w.tick
light_of w (of.Nack k) = has_fired (slice_get w.nacks k.0)

-- whether the base is an alwaysEvt, which can be taken whatever the lights are
abbrev pub is_always : PlainBase → Bool
is_always (always v) = true
is_always _ = false

-- what `told` says of the light; if there is no light, false
abbrev pub is_told : (Light → Bool) → Option Light → Bool
is_told told None = false
is_told told (Some l) = told l

-- Whether the base event can be taken alone, if `told` says which lights are lit: it is an alwaysEvt, or it has a light, which is lit.
abbrev pub lit_by : (Light → Bool) → PlainBase → Bool
lit_by told b = is_always b || is_told told (light b)
