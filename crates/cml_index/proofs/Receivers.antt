-- The rows of a leaf, by the lane of those whom it meets.
use Rattle.std.proofs.Common.{◌≡◌, Bool, false, cond, List, [], ◌∷◌, ◌++◌, map, Option, Some, None, refl, ap, ◌∙◌}
use Rattle.std.proofs.lemmas.List.{append-nil}
use Rattle.cml_value.specs.Value.{PlainBase, send, recv, swap}
use Rattle.cml_value.specs.declared.number.Tid.{Tid}
use Rattle.cml_scan.specs.declared.object.Light.{Light}
use Rattle.cml_scan.specs.declared.meet.Meet.{Meet}
use Rattle.cml_scan.specs.declared.meet.Meet.TheVariants.{Single}
use Rattle.cml_scan.specs.declared.meet.Place.{Place}
use Rattle.cml_scan.specs.Light.{lit_by}
use Rattle.cml_scan.specs.Scan.{PlainOffer, offers_of, scan_of, partners_of}
use Rattle.cml_scan.specs.Order.{IsSorted, base_at}
use Rattle.cml_scan.specs.World.{PlainEntry}
use Rattle.cml_scan.proofs.Found.{singles_at, pairs_at, partners_found}
use Rattle.cml_scan.proofs.Ordered.{offers_ascend}
use Rattle.cml_objects.specs.declared.lane.PartnerThreads.{PartnerThreads}
use Rattle.cml_objects.specs.Lanes.{those}
use Rattle.cml_index.specs.declared.slot.Slot.{Slot}
use Rattle.cml_index.specs.Slot.{met_by}
use Rattle.cml_index.specs.Slots.{lane_of}
use Rattle.cml_index.specs.Heads.{pair_of}
use Rattle.cml_index.specs.Posts.{slot_of, rows_at}
use Rattle.cml_index.proofs.Pairs.{pairs_there, no_pairs}

-- what meets another cannot be taken alone
pub met_dark : (told : Light → Bool) (b : PlainBase) (tid : Tid) (m : Slot × PartnerThreads) → met_by b tid ≡ Some m → lit_by told b ≡ false
met_dark told (send c v) tid m e = refl
met_dark told (recv c) tid m e = refl
met_dark told (swap s v) tid m e = refl
met_dark told _ tid m e = cc

-- the rows that a leaf begins, by the lane of those whom it meets
abbrev pub rows_by : (Light → Bool) → List PlainOffer → Place → PlainBase → Option (Slot × PartnerThreads) → List Meet
rows_by told os p b (Some m) = map (pair_of p) (those m.1 (lane_of slot_of m.0 os))
rows_by told os p b None = cond (lit_by told b) (Single p.tid p.leaf ∷ []) []

pub rows_met : (told : Light → Bool) (os : List PlainOffer) (p : Place) (b : PlainBase) → rows_at told os p b ≡ rows_by told os p b (met_by b p.tid)
rows_met told os p b = at (met_by b p.tid) refl
  where
    at : (m : Option (Slot × PartnerThreads)) → met_by b p.tid ≡ m → rows_at told os p b ≡ rows_by told os p b m
    at (Some m) e = rw (met_dark told b p.tid m e) (pairs_there p b m.0 m.1 e os)
    at None e = rw (no_pairs p b e os) (append-nil _)

-- the rows of a head among sorted threads
pub found_rows : (told : Light → Bool) (es : List PlainEntry) (p : Place) (b : PlainBase) → IsSorted es
    → base_at p (offers_of es) ≡ Some b → partners_of (scan_of es told) p ≡ rows_at told (offers_of es) p b
found_rows told es p b up e = partners_found (lit_by told) p (offers_of es) (offers_ascend es up) ∙ ap (λ ob. singles_at (lit_by told) p ob ++ pairs_at (offers_of es) p ob) e

pub found_none : (told : Light → Bool) (es : List PlainEntry) (p : Place) → IsSorted es → base_at p (offers_of es) ≡ None → partners_of (scan_of es told) p ≡ []
found_none told es p up e = partners_found (lit_by told) p (offers_of es) (offers_ascend es up) ∙ ap (λ ob. singles_at (lit_by told) p ob ++ pairs_at (offers_of es) p ob) e
