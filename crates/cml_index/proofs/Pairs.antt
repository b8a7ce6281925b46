-- Those whom a leaf meets, as the head, are the offers in one lane that are meant there.
use Rattle.std.proofs.Common.{◌≡◌, ℕ, Bool, true, false, ◌&&◌, ◌||◌, cond, List, [], ◌∷◌, map, Option, Some, None, refl, ap, sym, ◌∙◌}
use Rattle.std.specs.Prelude.{option_map}
use Rattle.std.specs.Bool.{beq}
use Rattle.std.specs.List.{filter, list_any}
use Rattle.cml_value.specs.Value.{PlainBase}
use Rattle.cml_value.specs.declared.number.Tid.{Tid}
use Rattle.cml_scan.specs.declared.object.Light.{Light}
use Rattle.cml_scan.specs.declared.meet.Place.{Place}
use Rattle.cml_scan.specs.Light.{light}
use Rattle.cml_scan.specs.Scan.{PlainOffer, do_meet, can_meet, pair, pairs_with}
use Rattle.cml_scan.specs.Order.{place, has_partner}
use Rattle.cml_scan.proofs.Found.{offer}
use Rattle.cml_objects.specs.declared.lane.PartnerThreads.{PartnerThreads}
use Rattle.cml_objects.specs.declared.pairing.SidePlace.{SidePlace}
use Rattle.cml_objects.specs.Lanes.{is_of, those}
use Rattle.cml_objects.specs.Pairings.{one_lane, same_object, side_place, leads, partner_threads}
use Rattle.cml_objects.proofs.Pairs.{led_to, do_meet_by_place}
use Rattle.cml_index.specs.declared.slot.Slot.{Slot}
use Rattle.cml_index.specs.declared.slot.Slot.TheVariants.{Waiters}
use Rattle.cml_index.specs.Slot.{met_lane, slot_by, met_at, met_by}
use Rattle.cml_index.specs.Slots.{is_slot, lane_of}
use Rattle.cml_index.specs.Heads.{pair_of}
use Rattle.cml_index.specs.Posts.{slot_of}
use Rattle.cml_index.specs.Waits.{meets_in}

-- By the law of sides: two leaves communicate, the first as the head, where the second is one of those whom the first meets in its lane.
pub met_there : (tid : Tid) (b : PlainBase) (q : Place) (c : PlainBase) → do_meet tid.0 b q.tid.0 c ≡ meets_in (met_by b tid) (slot_of c) q
met_there tid b q c = do_meet_by_place tid b q c ∙ at (side_place b) (side_place c)
  where
    turned : (l h o : Bool) → o && beq l h ≡ beq l h && o
    turned true true true = refl
    turned true true false = refl
    turned true false true = refl
    turned true false false = refl
    turned false true true = refl
    turned false true false = refl
    turned false false true = refl
    turned false false false = refl

    away : (s : SidePlace) (m : Option Light) → is_slot (met_lane s.object) (option_map Waiters m) ≡ false
    away s None = refl
    away s (Some l) = refl

    two : (s t : SidePlace) (h : Bool) → s.heads ≡ h → leads s t && is_of (partner_threads s.object.kind tid) q
        ≡ meets_in (cond h (Some (met_lane s.object, partner_threads s.object.kind tid)) None)
        (Some (Rattle.cml_index.specs.declared.slot.Slot.TheVariants.Side t.heads t.object)) q
    two s t true e = rw e (ap (λ b. b && is_of (partner_threads s.object.kind tid) q) (turned (one_lane s.object.kind) t.heads (same_object s.object t.object)))
    two s t false e = rw e refl

    alone : (s : SidePlace) (h : Bool) (m : Option Light) → false ≡ meets_in (cond h (Some (met_lane s.object, partner_threads s.object.kind tid)) None) (option_map Waiters m) q
    alone s true m = sym (ap (λ b. b && is_of (partner_threads s.object.kind tid) q) (away s m))
    alone s false m = refl

    at : (x y : Option SidePlace) → led_to tid q x y ≡ meets_in (met_at x tid) (slot_by y c) q
    at (Some s) (Some t) = two s t s.heads refl
    at (Some s) None = alone s s.heads (light c)
    at None y = refl

-- the same of a leaf and an offer
met_offer : (p : Place) (b : PlainBase) (m : Option (Slot × PartnerThreads)) → met_by b p.tid ≡ m → (o : PlainOffer) → can_meet (offer p b) o ≡ meets_in m (slot_of o.base) (place o)
met_offer p b m e o = met_there p.tid b (place o) o.base ∙ ap (λ x. meets_in x (slot_of o.base) (place o)) e

-- the rows that a leaf begins with others are those with the offers that are meant in the lane that it meets
pub pairs_there : (p : Place) (b : PlainBase) (k : Slot) (w : PartnerThreads) → met_by b p.tid ≡ Some (k, w)
    → (os : List PlainOffer) → pairs_with os (offer p b) ≡ map (pair_of p) (those w (lane_of slot_of k os))
pairs_there p b k w e [] = refl
pairs_there p b k w e (o ∷ os) =
    ap (λ r. map (pair (offer p b)) (cond r (o ∷ filter (can_meet (offer p b)) os) (filter (can_meet (offer p b)) os))) (met_offer p b (Some (k, w)) e o)
    ∙ at (is_slot k (slot_of o.base)) (is_of w (place o)) refl (pairs_there p b k w e os)
  where
    at : (r s : Bool) → is_of w (place o) ≡ s → pairs_with os (offer p b) ≡ map (pair_of p) (those w (lane_of slot_of k os))
        → map (pair (offer p b)) (cond (r && s) (o ∷ filter (can_meet (offer p b)) os) (filter (can_meet (offer p b)) os))
        ≡ map (pair_of p) (those w (map place (cond r (o ∷ filter (λ x. is_slot k (slot_of x.base)) os) (filter (λ x. is_slot k (slot_of x.base)) os))))
    at true true e h = rw e (ap (λ rs. pair_of p (place o) ∷ rs) h)
    at true false e h = rw e h
    at false s e h = h

-- a leaf that meets no lane begins no row with another
pub no_pairs : (p : Place) (b : PlainBase) → met_by b p.tid ≡ None → (os : List PlainOffer) → pairs_with os (offer p b) ≡ []
no_pairs p b e [] = refl
no_pairs p b e (o ∷ os) = ap (λ r. map (pair (offer p b)) (cond r (o ∷ filter (can_meet (offer p b)) os) (filter (can_meet (offer p b)) os))) (met_offer p b None e o) ∙ no_pairs p b e os

-- the leaf of a thread that waits for this
abbrev pub leaf_with : Tid → ℕ → PlainBase → PlainOffer
leaf_with tid leaf b = record { thread = tid.0; leaf = leaf; base = b }

-- whether a leaf has a partner, by the lane that it meets
abbrev pub any_by : List PlainOffer → Option (Slot × PartnerThreads) → Bool
any_by os (Some m) = list_any (is_of m.1) (lane_of slot_of m.0 os)
any_by os None = false

pub partner_met : (os : List PlainOffer) (tid : Tid) (leaf : ℕ) (b : PlainBase) → has_partner os (leaf_with tid leaf b) ≡ any_by os (met_by b tid)
partner_met os tid leaf b = there os (met_by b tid) refl
  where
    there : (os : List PlainOffer) (m : Option (Slot × PartnerThreads)) → met_by b tid ≡ m → has_partner os (leaf_with tid leaf b) ≡ any_by os m
    there [] None e = refl
    there [] (Some m) e = refl
    there (o ∷ os) None e = ap (λ r. r || has_partner os (leaf_with tid leaf b)) (met_there tid b (place o) o.base ∙ ap (λ x. meets_in x (slot_of o.base) (place o)) e) ∙ there os None e
    there (o ∷ os) (Some m) e =
        ap (λ r. r || has_partner os (leaf_with tid leaf b)) (met_there tid b (place o) o.base ∙ ap (λ x. meets_in x (slot_of o.base) (place o)) e)
        ∙ at (is_slot m.0 (slot_of o.base)) (there os (Some m) e)
      where
        at : (r : Bool) → has_partner os (leaf_with tid leaf b) ≡ list_any (is_of m.1) (lane_of slot_of m.0 os)
            → (r && is_of m.1 (place o)) || has_partner os (leaf_with tid leaf b)
            ≡ list_any (is_of m.1) (map place (cond r (o ∷ filter (λ x. is_slot m.0 (slot_of x.base)) os) (filter (λ x. is_slot m.0 (slot_of x.base)) os)))
        at true h = ap (λ r. is_of m.1 (place o) || r) h
        at false h = h
