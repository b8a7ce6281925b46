-- The command that moves the clock, and the ticks that threads wait for.
use Rattle.std.specs.Prelude.{ℕ, ◌<◌, nat_lt, List, Contains, Ok}
use Rattle.std.specs.List.{flat_map}
use Rattle.cml_value.specs.Value.{PlainBase, at_tick}
use Rattle.cml_value.specs.Group.{bases}
use Rattle.cml_scan.specs.World.{PlainWorld, PlainEntry, pending}
use Rattle.cml_book.specs.declared.refusal.Refusal.TheVariants as refusal
use Rattle.cml_book.specs.Entering.{max_tick}
use Rattle.cml_book.specs.Outcomes.{Outcome, refuse_if}

-- The clock moves to this tick, which must be neither before now nor above the greatest. This time is the project's own: no other
-- command moves it. A run moves it in the same way, to the next tick for which a thread waits.
abbrev pub clock : PlainWorld → ℕ → Outcome (Unit {0})
clock w to = refuse_if (nat_lt to w.tick) refusal.Clock
    (refuse_if (nat_lt max_tick to) refusal.Far
    (Ok (record w { tick = to }, tt)))

-- what the leaves of these pending threads wait for
abbrev pub bases_awaited : List PlainEntry → List PlainBase
bases_awaited entries = flat_map (λ e. bases e.group) entries

-- An alarm: a tick that has not come, and for which a leaf of a pending thread waits.
abbrev pub IsAlarm : PlainWorld → ℕ → Type 0
IsAlarm w t = (w.tick < t) × Contains (bases_awaited (pending w)) (at_tick t)
