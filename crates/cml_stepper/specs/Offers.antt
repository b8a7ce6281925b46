-- Rows that can be taken.
use Rattle.std.specs.Prelude.{◌≡◌, ℕ, nat_lt, List, map, length, take, Option, Some, None}
use Rattle.cml_value.specs.Value.{PlainBase, PlainFunction}
use Rattle.cml_scan.specs.World.{PlainWorld}
use Rattle.cml_scan.specs.declared.meet.Meet.{Meet}
use Rattle.cml_scan.specs.declared.meet.Meet.TheVariants.{Single, Pair}
use Rattle.cml_facts.specs.declared.ending.awaited.AwaitedEvent.{AwaitedEvent}
use Rattle.cml_facts.specs.Takes.{leaf_waited}
use Rattle.cml_facts.specs.Waits.{who_is, awaited_event}
use Rattle.cml_stepper.specs.declared.offer.Offer.{Offer}
use Rattle.cml_stepper.specs.declared.offer.Row.{Row}
use Rattle.cml_stepper.specs.declared.offer.Rows.{Rows}

-- how many threads, and how many rows, are listed at once
abbrev pub listed_limit : ℕ
listed_limit = 20

-- who took from an M-variable last is not told of a row
abbrev pub no_taker : ℕ → Option ℕ
no_taker m = None

-- an event that can be taken, with the state of its object
abbrev pub event_in : PlainWorld → List PlainFunction → Option PlainBase → Option AwaitedEvent
event_in w began None = None
event_in w began (Some b) = Some (awaited_event w began no_taker b)

-- a thread, and the event at one of its leaves
abbrev pub offered_at : PlainWorld → List PlainFunction → ℕ → ℕ → Offer
offered_at w began t n = record { thread = who_is began t; event = event_in w began (leaf_waited w t n) }

abbrev pub offered_row : PlainWorld → List PlainFunction → Meet → Row
offered_row w began (Single t n) = record { head = offered_at w began t.0 n; other = None }
offered_row w began (Pair h i o j) = record { head = offered_at w began h.0 i; other = Some (offered_at w began o.0 j) }

-- those of these rows that are listed, of which the first has this number, and whether there are more
pub record AreRows (w : PlainWorld) (began : List PlainFunction) (first : ℕ) (meets : List Meet) (x : Rows) : Type 0 where
  pub first_is : x.first ≡ first
  pub rows : x.rows.items ≡ map (offered_row w began) (take listed_limit meets)
  pub more : x.more ≡ nat_lt listed_limit (length meets)
