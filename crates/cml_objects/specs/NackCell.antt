-- What can become of a nack (Reppy's withNack). It is lit once it has fired, and from then on.
use Rattle.std.specs.Prelude.{◌≡◌, ℕ, ◌==◌, Bool, true, false, Option, Some, None, Result, Ok, Err}
use Rattle.cml_value.specs.Nack.{PlainNack, fresh_of, live, fired, held}
use Rattle.cml_value.specs.declared.number.Tid.{Tid}
use Rattle.cml_objects.specs.declared.nack.Spent.{Spent}

-- fresh, and this thread's
abbrev pub is_fresh_of : ℕ → PlainNack → Bool
is_fresh_of thread (fresh_of owner) = thread == owner
is_fresh_of thread _ = false

-- whose it is, while it is fresh
abbrev pub owner_of : PlainNack → Option Tid
owner_of (fresh_of owner) = Some (record { 0 = owner })
owner_of _ = None

-- a pending group has its branch
abbrev pub is_live_nack : PlainNack → Bool
is_live_nack live = true
is_live_nack _ = false

abbrev pub is_fired : PlainNack → Bool
is_fired (fresh_of owner) = false
is_fired live = false
is_fired fired = true
is_fired held = false

-- only a fresh nack can enter a pending group
abbrev pub after_enter : PlainNack → Option PlainNack
after_enter (fresh_of owner) = Some live
after_enter live = None
after_enter fired = None
after_enter held = None

-- only a live nack can fire
abbrev pub after_fire : PlainNack → Option PlainNack
after_fire (fresh_of owner) = None
after_fire live = Some fired
after_fire fired = None
after_fire held = None

-- only a live nack can be held
abbrev pub after_hold : PlainNack → Option PlainNack
after_hold (fresh_of owner) = None
after_hold live = Some held
after_hold fired = None
after_hold held = None

-- The call makes the nack what it can become, or refuses where it can't, and then nothing changes.
abbrev pub Becomes : Result (Unit {0}) Spent → Option PlainNack → PlainNack → PlainNack → Type 0
Becomes (Ok done) after old new = after ≡ Some new
Becomes (Err spent) after old new = (after ≡ None) × (new ≡ old)
