-- Where lanes are kept.
use Rattle.std.proofs.Common.{◌≡◌, ℕ, false, nat_eq, ap, sym, subst, ◌∙◌, arith}
use Rattle.std.proofs.lemmas.Bool.Decides.{nat_tests}
use Rattle.indexmap.specs.IndexMap.{get}
use Rattle.cml_scan.specs.declared.object.Light.TheVariants as of
use Rattle.cml_scan.proofs.Telling.{light_eq}
use Rattle.cml_index.specs.declared.slot.Slot.{Slot}
use Rattle.cml_index.specs.declared.slot.Slot.TheVariants.{Side, Waiters}
use Rattle.cml_index.specs.declared.slot.LaneKind.TheVariants.{IVars, MVars, Mailboxes, Ports, Joins, Nacks}
use Rattle.cml_index.specs.declared.slot.Spot.TheVariants.{Listed, Tick}
use Rattle.cml_index.specs.declared.lanes.Lanes.{Lanes}
use Rattle.cml_index.specs.Slot.{same_slot}
use Rattle.cml_index.specs.Stands.{spot_of, stand_at, lanes_in, side_row}

-- the slot that is kept under a tick is that of its alarm
pub tick_slot : (k : Slot) (t : ℕ) → spot_of k ≡ Tick t → k ≡ Waiters (of.Alarm t)
tick_slot (Side h n) t e = cc
tick_slot (Waiters (of.Alarm u)) t e = let same : u ≡ t = cc in ap (λ v. Waiters (of.Alarm v)) same
tick_slot (Waiters (of.IVar i)) t e = cc
tick_slot (Waiters (of.MVar m)) t e = cc
tick_slot (Waiters (of.Mbox b)) t e = cc
tick_slot (Waiters (of.Port p)) t e = cc
tick_slot (Waiters (of.Joined u)) t e = cc
tick_slot (Waiters (of.Nack n)) t e = cc

turned : (a b : ℕ) → nat_eq a b ≡ false → nat_eq b a ≡ false
turned a b e = grind (arith, nat_tests)

-- what changes under one tick changes at no other slot
module _ (x y : Lanes) (rows : (row : _) → lanes_in y row ≡ lanes_in x row) (tick : ℕ) (other : (t : ℕ) → nat_eq tick t ≡ false → get nat_eq y.ticks t ≡ get nat_eq x.ticks t) where
  listed : (row : _) (n : ℕ) → Rattle.cml_index.specs.Stands.stand_in y (Listed row n) ≡ Rattle.cml_index.specs.Stands.stand_in x (Listed row n)
  listed row n = ap (λ v. Rattle.std.specs.Prelude.slice_get v.items n) (rows row)

  pub tick_else : (slot : Slot) → spot_of slot ≡ Tick tick → (k : Slot) → same_slot k slot ≡ false → stand_at y k ≡ stand_at x k
  tick_else slot is (Side h n) off = listed (side_row n.kind h) n.number
  tick_else slot is (Waiters (of.Alarm t)) off =
      other t (turned t tick (sym (light_eq (of.Alarm t) (of.Alarm tick)) ∙ subst (λ s. same_slot (Waiters (of.Alarm t)) s ≡ false) (tick_slot slot tick is) off))
  tick_else slot is (Waiters (of.IVar i)) off = listed IVars i.0
  tick_else slot is (Waiters (of.MVar m)) off = listed MVars m.0
  tick_else slot is (Waiters (of.Mbox b)) off = listed Mailboxes b.0
  tick_else slot is (Waiters (of.Port p)) off = listed Ports p.0
  tick_else slot is (Waiters (of.Joined u)) off = listed Joins u.0
  tick_else slot is (Waiters (of.Nack n)) off = listed Nacks n.0
