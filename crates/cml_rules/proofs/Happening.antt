-- Base events that happen alone are those that are lit.
use Rattle.std.proofs.Common.{◌≡◌, ℕ, ◌≤◌, true, nat_le, List, [], ◌∷◌, Option, Some, None, refl, arith}
use Rattle.std.specs.Prelude.{slice_get, slice_set}
use Rattle.std.proofs.lemmas.Bool.Decides.{nat_tests}
use Rattle.cml_value.specs.Value.{PlainValue, unit, PlainBase, always, send, recv, swap, iget, mtake, mget, mswap, mail_recv, port_recv, join, at_tick, after_ticks, nack}
use Rattle.cml_scan.specs.World.{PlainThread, running, pending_on, ended, PlainNack, fresh_of, live, fired, held, PlainWorld}
use Rattle.cml_scan.specs.Light.{lit, is_full, has_item, has_ended, has_fired}
use Rattle.cml_rules.specs.Rules.{Alone, at_any_time, gets, reads, takes, replaces, mailed, posted, joins, comes, fires}

-- the base event happens alone, with what it gives and the world that it leaves
abbrev pub Happens : PlainWorld → PlainBase → Type 0
Happens w b = (v : PlainValue) × (w' : PlainWorld) × Alone w b v w'

come : (t now : ℕ) → t ≤ now → nat_le t now ≡ true
come t now h = grind (arith, nat_tests)

has_come : (t now : ℕ) → nat_le t now ≡ true → t ≤ now
has_come t now h = grind (arith, nat_tests)

pub alone_lit : {w : PlainWorld} {b : PlainBase} {v : PlainValue} {w' : PlainWorld} → Alone w b v w' → lit w b ≡ true
alone_lit (at_any_time v) = refl
alone_lit (gets i v e) = rw e refl
alone_lit (reads m v e) = rw e refl
alone_lit (takes m v e) = rw e refl
alone_lit (replaces m u v e) = rw e refl
alone_lit (mailed b v vs e) = rw e refl
alone_lit (posted p v vs e) = rw e refl
alone_lit (joins t e) = rw e refl
alone_lit {w = w} (comes t h) = come t w.tick h
alone_lit (fires k e) = rw e refl

full : (o : Option (Option PlainValue)) → is_full o ≡ true → (v : PlainValue) × (o ≡ Some (Some v))
full (Some (Some v)) e = (v, refl)
full (Some None) e = cc
full None e = cc

filled : (o : Option (List PlainValue)) → has_item o ≡ true → (x : PlainValue × List PlainValue) × (o ≡ Some (x.0 ∷ x.1))
filled (Some (v ∷ vs)) e = ((v, vs), refl)
filled (Some []) e = cc
filled None e = cc

done : (o : Option PlainThread) → has_ended o ≡ true → o ≡ Some ended
done (Some ended) e = refl
done (Some running) e = cc
done (Some (pending_on g)) e = cc
done None e = cc

fired_is : (o : Option PlainNack) → has_fired o ≡ true → o ≡ Some fired
fired_is (Some fired) e = refl
fired_is (Some (fresh_of t)) e = cc
fired_is (Some live) e = cc
fired_is (Some held) e = cc
fired_is None e = cc

pub lit_happens : (w : PlainWorld) (b : PlainBase) → lit w b ≡ true → Happens w b
lit_happens w (always v) e = (v, w, at_any_time v)
lit_happens w (send c v) e = cc
lit_happens w (recv c) e = cc
lit_happens w (swap s v) e = cc
lit_happens w (iget i) e = let f = full (slice_get w.ivars i) e in (f.0, w, gets i f.0 f.1)
lit_happens w (mtake m) e = let f = full (slice_get w.mvars m) e in (f.0, record w { mvars = slice_set w.mvars m None }, takes m f.0 f.1)
lit_happens w (mget m) e = let f = full (slice_get w.mvars m) e in (f.0, w, reads m f.0 f.1)
lit_happens w (mswap m u) e = let f = full (slice_get w.mvars m) e in (f.0, record w { mvars = slice_set w.mvars m (Some u) }, replaces m u f.0 f.1)
lit_happens w (mail_recv b) e = let f = filled (slice_get w.mailboxes b) e in (f.0.0, record w { mailboxes = slice_set w.mailboxes b f.0.1 }, mailed b f.0.0 f.0.1 f.1)
lit_happens w (port_recv p) e = let f = filled (slice_get w.ports p) e in (f.0.0, record w { ports = slice_set w.ports p f.0.1 }, posted p f.0.0 f.0.1 f.1)
lit_happens w (join t) e = (unit, w, joins t (done (slice_get w.threads t) e))
lit_happens w (at_tick t) e = (unit, w, comes t (has_come t w.tick e))
lit_happens w (after_ticks d) e = cc
lit_happens w (nack k) e = (unit, w, fires k (fired_is (slice_get w.nacks k) e))
