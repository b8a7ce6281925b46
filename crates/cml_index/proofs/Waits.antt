-- What a leaf waits for says all of its base event that the index reads.
use Rattle.std.proofs.Common.{◌≡◌, ℕ, zero, suc, ◌+◌, ◌<◌, ◌^◌, Bool, true, false, cond, List, [], ◌∷◌, ◌++◌, map, length, drop, get_or, Option, Some, None, refl, ap, sym, subst, ◌∙◌, arith}
use Rattle.std.specs.Prelude.{option_map}
use Rattle.std.specs.List.{filter}
use Rattle.std.proofs.lemmas.List.{map-append, length-map}
use Rattle.cml_value.specs.Value.{PlainBase, PlainFunction, always, send, recv, swap, iget, mtake, mget, mswap, mail_recv, port_recv, join, at_tick, after_ticks, nack}
use Rattle.cml_value.specs.Group.{PlainGroup, PlainGroups, wrap, groups_and, bases}
use Rattle.cml_value.specs.declared.number.Tid.{Tid}
use Rattle.cml_scan.specs.declared.object.Light.{Light}
use Rattle.cml_scan.specs.declared.meet.Place.{Place}
use Rattle.cml_scan.specs.Light.{lit_by, is_always}
use Rattle.cml_scan.specs.declared.meet.Meet.{Meet}
use Rattle.cml_scan.specs.declared.meet.Meet.TheVariants.{Single}
use Rattle.cml_scan.specs.World.{PlainEntry}
use Rattle.cml_scan.specs.Order.{is_lit_there, meet_at, IsSorted, base_at}
use Rattle.cml_scan.specs.Scan.{PlainOffer, leaves_from, offers_of, scan_of, partners_of}
use Rattle.cml_scan.proofs.Bases.{bases_of_all, bases-wrap, bases-groups_and}
use Rattle.cml_objects.specs.declared.lane.PartnerThreads.{PartnerThreads}
use Rattle.cml_index.specs.declared.slot.Slot.{Slot}
use Rattle.cml_index.specs.declared.slot.Wait.{Wait}
use Rattle.cml_index.specs.Slot.{met_by}
use Rattle.cml_index.specs.Slots.{slot_in}
use Rattle.cml_index.specs.Posts.{slot_of, rows_at}
use Rattle.cml_index.specs.Waits.{wait_by, leaf_wait, IsPost, lit_wait, met_wait, meets_in, rows_by_lane, rows_wait}
use Rattle.cml_index.proofs.Pairs.{met_there}
use Rattle.cml_index.proofs.Receivers.{rows_by, rows_met, found_rows, found_none}

-- it stands in the same lane
pub slot_is : (b : PlainBase) → slot_in (leaf_wait b) ≡ slot_of b
slot_is b = at (slot_of b) (is_always b)
  where
    at : (s : Option Slot) (a : Bool) → slot_in (wait_by s a) ≡ s
    at (Some k) a = refl
    at None true = refl
    at None false = refl

pub waits_slots : (bs : List PlainBase) → map slot_in (map leaf_wait bs) ≡ map slot_of bs
waits_slots [] = refl
waits_slots (b ∷ bs) = ap (λ s. s ∷ map slot_in (map leaf_wait bs)) (slot_is b) ∙ ap (λ ss. slot_of b ∷ ss) (waits_slots bs)

-- what the leaves of a group wait for is what is kept beside it
pub is_post : (g : PlainGroup) (ws : List Wait) → ws ≡ map leaf_wait (bases g) → length ws < 2 ^ 32 → IsPost g ws
is_post g ws same few =
    let many : length ws ≡ length (bases g) = ap length same ∙ length-map (bases g) leaf_wait in
    record { same = same; slots = ap (map slot_in) same ∙ waits_slots (bases g); many = many; small = subst (λ n. n < 2 ^ 32) many few }

-- it can be taken alone in the same cases
pub lit_is : (told : Light → Bool) (b : PlainBase) → lit_by told b ≡ lit_wait told (leaf_wait b)
lit_is told (always v) = refl
lit_is told (send c v) = refl
lit_is told (recv c) = refl
lit_is told (swap s v) = refl
lit_is told (iget i) = refl
lit_is told (mtake m) = refl
lit_is told (mget m) = refl
lit_is told (mswap m v) = refl
lit_is told (mail_recv b) = refl
lit_is told (port_recv p) = refl
lit_is told (join t) = refl
lit_is told (at_tick t) = refl
lit_is told (after_ticks d) = refl
lit_is told (nack k) = refl

pub waits_lit : (told : Light → Bool) (bs : List PlainBase) → length (filter (lit_wait told) (map leaf_wait bs)) ≡ length (filter (lit_by told) bs)
waits_lit told [] = refl
waits_lit told (b ∷ bs) = at (lit_by told b) (lit_wait told (leaf_wait b)) (lit_is told b) (waits_lit told bs)
  where
    at : (x y : Bool) → x ≡ y → length (filter (lit_wait told) (map leaf_wait bs)) ≡ length (filter (lit_by told) bs)
        → length (cond y (leaf_wait b ∷ filter (lit_wait told) (map leaf_wait bs))
        (filter (lit_wait told) (map leaf_wait bs)))
        ≡ length (cond x (b ∷ filter (lit_by told) bs) (filter (lit_by told) bs))
    at true true e h = ap suc h
    at false false e h = h
    at true false e h = cc
    at false true e h = cc

-- and it meets the same
pub met_is : (b : PlainBase) (tid : Tid) → met_by b tid ≡ met_wait (leaf_wait b) tid
met_is (always v) tid = refl
met_is (send c v) tid = refl
met_is (recv c) tid = refl
met_is (swap s v) tid = refl
met_is (iget i) tid = refl
met_is (mtake m) tid = refl
met_is (mget m) tid = refl
met_is (mswap m v) tid = refl
met_is (mail_recv b) tid = refl
met_is (port_recv p) tid = refl
met_is (join t) tid = refl
met_is (at_tick t) tid = refl
met_is (after_ticks d) tid = refl
met_is (nack k) tid = refl

-- of a leaf that is there or not
abbrev pub lit_at : (Light → Bool) → Option Wait → Bool
lit_at told None = false
lit_at told (Some w) = lit_wait told w

pub lit_there : (told : Light → Bool) (o : Option PlainBase) → is_lit_there (lit_by told) o ≡ lit_at told (option_map leaf_wait o)
lit_there told None = refl
lit_there told (Some b) = lit_is told b

abbrev pub meet_waits : Tid → Place → Option Wait → Option Wait → Bool
meet_waits head q None w = false
meet_waits head q (Some v) None = false
meet_waits head q (Some v) (Some w) = meets_in (met_wait v head) (slot_in w) q

pub meet_there : (head : Tid) (q : Place) (x y : Option PlainBase) → meet_at head.0 q.tid.0 x y ≡ meet_waits head q (option_map leaf_wait x) (option_map leaf_wait y)
meet_there head q None y = refl
meet_there head q (Some b) None = refl
meet_there head q (Some b) (Some c) = met_there head b q c ∙ ap (λ m. meets_in m (slot_of c) q) (met_is b head) ∙ ap (λ s. meets_in (met_wait (leaf_wait b) head) s q) (sym (slot_is c))

-- the rows of a leaf
pub rows_waits : (told : Light → Bool) (os : List PlainOffer) (p : Place) (b : PlainBase) → rows_at told os p b ≡ rows_wait told os p (leaf_wait b)
rows_waits told os p b = rows_met told os p b ∙ ap (rows_by told os p b) (met_is b p.tid) ∙ at (met_wait (leaf_wait b) p.tid)
  where
    at : (m : Option (Slot × PartnerThreads)) → rows_by told os p b m ≡ rows_by_lane told os p (leaf_wait b) m
    at (Some m) = refl
    at None = ap (λ r. cond r (Single p.tid p.leaf ∷ []) []) (lit_is told b)

-- one leaf of a group
pub record IsLeaf (bs : List PlainBase) (i : ℕ) (w : Wait) (b : PlainBase) : Type 0 where
  pub split : drop i bs ≡ b ∷ drop (i + 1) bs
  pub waits : leaf_wait b ≡ w

pub at_leaf : (bs : List PlainBase) (ws : List Wait) (i : ℕ) (d : Wait) → ws ≡ map leaf_wait bs → i < length ws → (b : PlainBase) × IsLeaf bs i (get_or ws i d) b
at_leaf bs ws i d same within = rw same (there bs i d (rw same at within))
  where
    there : (bs : List PlainBase) (i : ℕ) (d : Wait) → i < length (map leaf_wait bs) → (b : PlainBase) × IsLeaf bs i (get_or (map leaf_wait bs) i d) b
    there [] i d within = absurd (omega (arith, within))
    there (b ∷ bs) zero d within = (b, record { split = refl; waits = refl })
    there (b ∷ bs) (suc i) d within =
        let rest = there bs i d (omega (arith, within)) in
        let next : suc (i + 1) ≡ suc i + 1 = omega arith in
        (rest.0, record { split = rest.1.split ∙ ap (λ n. rest.0 ∷ drop n (b ∷ bs)) next; waits = rest.1.waits })

-- what the leaves of all groups of a list wait for
abbrev pub waits_of_all : PlainGroups → List Wait
waits_of_all gs = map leaf_wait (bases_of_all gs)

pub waits-wrap : (g : PlainGroup) (f : PlainFunction) → map leaf_wait (bases (wrap g f)) ≡ map leaf_wait (bases g)
waits-wrap g f = ap (map leaf_wait) (bases-wrap g f)

pub waits-groups_and : (g : PlainGroup) (gs : PlainGroups) → waits_of_all (groups_and g gs) ≡ map leaf_wait (bases g) ++ waits_of_all gs
waits-groups_and g gs = ap (map leaf_wait) (bases-groups_and g gs) ∙ map-append leaf_wait (bases g) (bases_of_all gs)

pub ruleset wait_steps = (waits-wrap, waits-groups_and)

-- the rows of a head, by what the leaf there waits for
abbrev pub rows_there : (Light → Bool) → List PlainOffer → Place → Option Wait → List Meet
rows_there told os p None = []
rows_there told os p (Some w) = rows_wait told os p w

pub found_there : (told : Light → Bool) (es : List PlainEntry) (p : Place) → IsSorted es
    → partners_of (scan_of es told) p ≡ rows_there told (offers_of es) p
    (option_map leaf_wait (base_at p (offers_of es)))
found_there told es p up = at (base_at p (offers_of es)) refl
  where
    at : (o : Option PlainBase) → base_at p (offers_of es) ≡ o → partners_of (scan_of es told) p ≡ rows_there told (offers_of es) p (option_map leaf_wait o)
    at None e = found_none told es p up e
    at (Some b) e = found_rows told es p b up e ∙ rows_waits told (offers_of es) p b

-- one leaf more of those that pass a test
pub one_leaf : (f : PlainOffer → Bool) (thread leaf : ℕ) (bs : List PlainBase) (b : PlainBase) (v : Bool) → drop leaf bs
    ≡ b ∷ drop (leaf + 1) bs → f (record { thread = thread; leaf = leaf; base = b }) ≡ v
    → filter f (leaves_from thread leaf (drop leaf bs))
    ≡ cond v (record { thread = thread; leaf = leaf; base = b }
    ∷ filter f (leaves_from thread (leaf + 1) (drop (leaf + 1) bs)))
    (filter f (leaves_from thread (leaf + 1) (drop (leaf + 1) bs)))
one_leaf f thread leaf bs b v split is =
    ap (λ xs. filter f (leaves_from thread leaf xs)) split
    ∙ ap (λ r. cond r (record { thread = thread; leaf = leaf; base = b }
    ∷ filter f (leaves_from thread (leaf + 1) (drop (leaf + 1) bs)))
    (filter f (leaves_from thread (leaf + 1) (drop (leaf + 1) bs)))) is
