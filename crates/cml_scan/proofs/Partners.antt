-- The rows of a send are the other threads' receives of its channel, and those of a swap the swaps of its swap channel in the threads
-- above its own; the heads are the lit leaves and then the leaves that have a partner. All for what a table was told, and for a world.
use Rattle.std.proofs.Common.{◌≡◌, ℕ, zero, suc, ◌<◌, Bool, true, false, cond, List, [], ◌∷◌, ◌++◌, map, length, slice_index_or, Some, refl, ap, ◌∙◌, arith}
use Rattle.std.specs.Prelude.{Contains}
use Rattle.std.specs.List.{filter}
use Rattle.std.proofs.lemmas.List.Elements.{filter_agree}
use Rattle.cml_value.specs.Value.{PlainValue, PlainBase, send, swap}
use Rattle.cml_scan.specs.World.{PlainWorld, PlainEntry, pending}
use Rattle.cml_scan.specs.Light.{lit, lit_by, light_of}
use Rattle.cml_scan.specs.Scan.{PlainOffer, offers_of, meets, can_meet, pair, pairs_with, rows_of, scan_of, partners_of, partners, heads_of, heads}
use Rattle.cml_scan.specs.Order.{Ascends, IsSorted, place, before, base_at, has_partner, can_take, can_swap}
use Rattle.cml_scan.specs.declared.object.Light.{Light}
use Rattle.cml_scan.specs.declared.meet.Meet.TheVariants.{Single}
use Rattle.cml_scan.proofs.Ordered.{offers_ascend, pending_sorted}
use Rattle.cml_scan.proofs.Found.{singles_at, pairs_at, partners_found}
use Rattle.cml_scan.proofs.Heads.{AreAt, at_self, heads_found}
use Rattle.cml_scan.proofs.Meeting.{can_meet-send, can_meet-swap}
use Rattle.cml_scan.proofs.Told.{lit_by-light_of}

-- no base event is lit and meets another
pub lit_by-alone : (told : Light → Bool) (b c : PlainBase) → lit_by told b ≡ true → meets b c ≡ false
lit_by-alone told (send d v) c e = cc
lit_by-alone told (swap d v) c e = cc
lit_by-alone told _ c e = refl

pub lit-alone : (w : PlainWorld) (b c : PlainBase) → lit w b ≡ true → meets b c ≡ false
lit-alone w b c e = lit_by-alone (light_of w) b c (lit_by-light_of w b ∙ e)

-- what stands at the place of a leaf that is there
at_there : (xs os : List PlainOffer) (k : ℕ) (h : PlainOffer) → AreAt xs os → k < length os → slice_index_or os k h ≡ h → base_at (place h) xs ≡ Some h.base
at_there xs [] k h here within is = absurd (omega arith)
at_there xs (o ∷ os) zero h here within is = rw (← is) here.0
at_there xs (o ∷ os) (suc k) h here within is = at_there xs os k h here.1 (omega arith) is

pub base_at-there : (xs : List PlainOffer) (h : PlainOffer) → Ascends before (map place xs) → Contains xs h → base_at (place h) xs ≡ Some h.base
base_at-there xs h up there = at_there xs xs there.0 h (at_self xs up) there.1 there.2

-- the rows of a leaf that is not lit, among leaves in order
pub unlit_found : (is_lit : PlainBase → Bool) (xs : List PlainOffer) (h : PlainOffer) → Ascends before (map place xs) → is_lit h.base ≡ false → Contains xs h
    → partners_of (rows_of is_lit xs) (place h) ≡ map (pair h) (filter (can_meet h) xs)
unlit_found is_lit xs h up dark there =
    partners_found is_lit (place h) xs up ∙ ap (λ ob. singles_at is_lit (place h) ob ++ pairs_at xs (place h) ob) (base_at-there xs h up there) ∙ own (is_lit h.base) dark
  where
    own : (b : Bool) → b ≡ false → cond b (Single (place h).tid (place h).leaf ∷ []) [] ++ pairs_with xs h ≡ pairs_with xs h
    own true e = cc
    own false e = refl

send_found : (is_lit : PlainBase → Bool) (xs : List PlainOffer) (h : PlainOffer) (c : ℕ) (v : PlainValue)
    → Ascends before (map place xs) → is_lit (send c v) ≡ false → Contains xs h → h.base ≡ send c v
    → partners_of (rows_of is_lit xs) (place h) ≡ map (pair h) (filter (can_take h.thread c) xs)
send_found is_lit xs h c v up dark there is =
    unlit_found is_lit xs h up (ap is_lit is ∙ dark) there ∙ ap (map (pair h)) (filter_agree (can_meet h) (can_take h.thread c) (can_meet-send h c v is) xs)

swap_found : (is_lit : PlainBase → Bool) (xs : List PlainOffer) (h : PlainOffer) (s : ℕ) (v : PlainValue)
    → Ascends before (map place xs) → is_lit (swap s v) ≡ false → Contains xs h → h.base ≡ swap s v
    → partners_of (rows_of is_lit xs) (place h) ≡ map (pair h) (filter (can_swap h.thread s) xs)
swap_found is_lit xs h s v up dark there is =
    unlit_found is_lit xs h up (ap is_lit is ∙ dark) there ∙ ap (map (pair h)) (filter_agree (can_meet h) (can_swap h.thread s) (can_meet-swap h s v is) xs)

pub scan-send : (w : PlainWorld) (h : PlainOffer) (c : ℕ) (v : PlainValue) → Contains (offers_of (pending w)) h → h.base ≡ send c v
    → partners w (place h) ≡ map (pair h) (filter (can_take h.thread c) (offers_of (pending w)))
scan-send w h c v there is = send_found (lit w) (offers_of (pending w)) h c v (offers_ascend (pending w) (pending_sorted w)) refl there is

pub scan-swap : (w : PlainWorld) (h : PlainOffer) (s : ℕ) (v : PlainValue) → Contains (offers_of (pending w)) h → h.base ≡ swap s v
    → partners w (place h) ≡ map (pair h) (filter (can_swap h.thread s) (offers_of (pending w)))
scan-swap w h s v there is = swap_found (lit w) (offers_of (pending w)) h s v (offers_ascend (pending w) (pending_sorted w)) refl there is

-- the heads among sorted threads
pub scan_of-heads : (entries : List PlainEntry) (told : Light → Bool) → IsSorted entries
    → heads_of (scan_of entries told) ≡ map place (filter (λ o. lit_by told o.base) (offers_of entries)) ++ map place (filter (has_partner (offers_of entries)) (offers_of entries))
scan_of-heads entries told up = heads_found (lit_by told) (lit_by-alone told) (offers_of entries) (offers_ascend entries up)

pub scan-heads : (w : PlainWorld)
    → heads w ≡ map place (filter (λ o. lit w o.base) (offers_of (pending w))) ++ map place (filter (has_partner (offers_of (pending w))) (offers_of (pending w)))
scan-heads w = heads_found (lit w) (lit-alone w) (offers_of (pending w)) (offers_ascend (pending w) (pending_sorted w))
