-- The time can move to the next alarm.
use Rattle.std.proofs.Common.{◌≡◌, ℕ, ◌<◌, ◌≤◌, Bool, true, false, not, ◌&&◌, nat_lt, refl, ap, sym, arith, Option, Some, None, Ok, Err}
use Rattle.std.proofs.lemmas.Bool.{and_parts}
use Rattle.std.proofs.lemmas.Bool.Decides.{nat_tests}
use Rattle.cml_scan.specs.World.{PlainWorld, pending}
use Rattle.cml_scan.specs.Scan.{scan}
use Rattle.cml_scan.specs.Order.{Every}
use Rattle.cml_book.specs.Clock.{clock, bases_awaited}
use Rattle.cml_book.specs.Entering.{max_tick}
use Rattle.cml_book.specs.Outcomes.{refuse_if}
use Rattle.cml_book.specs.declared.refusal.Refusal.{Refusal}
use Rattle.cml_book.specs.declared.refusal.Refusal.TheVariants as refusal
use Rattle.cml_schedule.specs.declared.item.Item.TheVariants.{Clock}
use Rattle.cml_hub.specs.Runs.{next_alarm, has_number, any_runs, is_empty, is_allowed}
use Rattle.cml_hub.specs.Agreeing.{waits_soon}
use Rattle.cml_hub.proofs.Alarms.{IsLeast, least_is}
use Rattle.cml_hub.proofs.Soon.{alarm_soon}

number_is : (o : Option ℕ) (n : ℕ) → has_number o n ≡ true → o ≡ Some n
number_is None n h = cc
number_is (Some m) n h = let e : m ≡ n = grind (arith, nat_tests) in ap (λ k. Some k) e

alarm_is : (w : PlainWorld) (o : Option ℕ) (t : ℕ) → IsLeast w.tick (bases_awaited (pending w)) o → o ≡ Some t → Every waits_soon w.threads → (w.tick < t) × (t ≤ max_tick)
alarm_is w None t h e s = cc
alarm_is w (Some u) t h e s = let same : u ≡ t = cc in (omega (arith, same, h.0.0), omega (arith, same, alarm_soon 0 w.threads u s h.0.1))

moved : (w : PlainWorld) (t : ℕ) (a b : Bool) → nat_lt t w.tick ≡ a → nat_lt max_tick t ≡ b → w.tick < t → t ≤ max_tick
    → refuse_if {R = Unit {0}} a refusal.Clock (refuse_if b refusal.Far (Ok (record w { tick = t }, tt))) ≡ Ok (record w { tick = t }, tt)
moved w t true b p q lt le = absurd (let f : t < w.tick = grind (arith, nat_tests) in omega arith)
moved w t false true p q lt le = absurd (let f : max_tick < t = grind (arith, nat_tests) in omega arith)
moved w t false false p q lt le = refl

-- the tick to which it may move has not come, and is no greater than the greatest
pub may_come : (w : PlainWorld) (t : ℕ) → is_allowed w (Clock t) ≡ true → Every waits_soon w.threads → (w.tick < t) × (t ≤ max_tick)
may_come w t ok soon =
    let parts = and_parts (has_number (next_alarm w) t && not (any_runs w)) (is_empty (scan w)) ok in
    let more = and_parts (has_number (next_alarm w) t) (not (any_runs w)) parts.0 in
    alarm_is w (next_alarm w) t (least_is w.tick (bases_awaited (pending w))) (number_is (next_alarm w) t more.0) soon

-- the clock moves to it
pub clock_moves : (w : PlainWorld) (t : ℕ) → is_allowed w (Clock t) ≡ true → Every waits_soon w.threads → clock w t ≡ Ok (record w { tick = t }, tt)
clock_moves w t ok soon = let at = may_come w t ok soon in moved w t (nat_lt t w.tick) (nat_lt max_tick t) refl refl at.0 at.1

pub clocked_is : (w new : PlainWorld) (t : ℕ) (u : Unit {0}) → clock w t ≡ Ok (record w { tick = t }, tt) → clock w t ≡ Ok (new, u) → new ≡ record w { tick = t }
clocked_is w new t u is e =
    let g : (record w { tick = t }, tt) ≡ (new, u) = cc in
    ap (λ (p : PlainWorld × Unit {0}). p.0) (sym g)

pub clock_refused : (w : PlainWorld) (t : ℕ) (why : Refusal) → clock w t ≡ Ok (record w { tick = t }, tt) → clock w t ≡ Err why → ⊥
clock_refused w t why is e = cc
