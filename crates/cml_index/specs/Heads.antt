-- The leaves that begin a row, and what a search among some leaves returns.
use Rattle.std.specs.Prelude.{ℕ, ◌≡◌, ◌+◌, ◌*◌, ◌<◌, ◌≤◌, Bool, true, List, [], ◌∷◌, Option, Some, None, map, filter, length, slice_get}
use Rattle.std.specs.List.{list_any}
use Rattle.cml_value.specs.declared.number.Tid.{Tid}
use Rattle.cml_objects.specs.Lanes.{is_others, is_of}
use Rattle.cml_objects.specs.Pairings.{partner_threads}
use Rattle.cml_objects.specs.declared.lane.PartnerThreads.{PartnerThreads}
use Rattle.cml_objects.specs.declared.pairing.PairedId.{PairedId}
use Rattle.cml_index.specs.declared.slot.Slot.TheVariants.{Side}
use Rattle.cml_index.specs.Slots.{lane_of}
use Rattle.cml_value.specs.Group.{bases}
use Rattle.cml_value.specs.Value.{PlainBase}
use Rattle.cml_scan.specs.declared.meet.Meet.{Meet}
use Rattle.cml_scan.specs.declared.meet.Meet.TheVariants.{Pair}
use Rattle.cml_scan.specs.declared.meet.Place.{Place}
use Rattle.cml_scan.specs.Light.{lit_by}
use Rattle.cml_scan.specs.World.{PlainEntry}
use Rattle.cml_scan.specs.Scan.{PlainOffer, place_of, heads_of, partners_of}
use Rattle.cml_scan.specs.Order.{before, place, has_partner}
use Rattle.cml_index.specs.declared.slot.Slot.{Slot}
use Rattle.cml_index.specs.declared.heads.HeadKind.{HeadKind}
use Rattle.cml_index.specs.declared.heads.HeadKind.TheVariants.{Alone, Met}
use Rattle.cml_index.specs.declared.heads.Sought.{Sought}
use Rattle.cml_index.specs.declared.heads.Sought.TheVariants.{Found, Left}
use Rattle.cml_index.specs.Slot.{met_lane}
use Rattle.cml_index.specs.Posts.{told, slot_of}

-- the leaf at a place, if it waits for this
abbrev pub offer_at : Place → PlainBase → PlainOffer
offer_at p b = record { thread = p.tid.0; leaf = p.leaf; base = b }

-- the row of the leaf at one place with the one at another
abbrev pub pair_of : Place → Place → Meet
pair_of p q = Pair p.tid p.leaf q.tid q.leaf

-- The leaf is one of those that are sought: it can be taken alone, or one of these leaves can meet it.
abbrev pub is_sought : HeadKind → List (Slot × Bool) → List PlainOffer → PlainOffer → Bool
is_sought Alone flags os o = lit_by (told flags) o.base
is_sought Met flags os o = has_partner os o

-- the place of the leaf of this number among these, or how many more leaves are to be passed over after them
abbrev pub IsSought : Sought → ℕ → List PlainOffer → Type 0
IsSought (Found p) k os = slice_get (map place os) k ≡ Some p
IsSought (Left more) k os = k ≡ length os + more

-- The search among the leaves of one thread made at most three looks for each leaf up to where it ended.
abbrev pub EndsThere : Sought → PlainEntry → ℕ → ℕ → Type 0
EndsThere (Found p) e old new = (p.tid.0 ≡ e.thread) × (p.leaf < length (bases e.group)) × (new ≤ old + 3 * (p.leaf + 1))
EndsThere (Left more) e old new = new ≤ old + 3 * length (bases e.group)

-- Among these offers there is one of another thread than this one's, where the thread of all of them is given if they are of one alone.
abbrev pub is_beside : Option Tid → Place → Bool
is_beside (Some tid) q = is_others tid q
is_beside None q = true

-- the heads that have, among these offers, one of those whom they meet
abbrev pub met_among : (Tid → PartnerThreads) → List Place → List Place → List Place
met_among meets others heads = filter (λ q. list_any (is_of (meets q.tid)) others) heads

-- the leaves that can stand first on the object and have a partner there
abbrev pub heads_on : List PlainOffer → PairedId → List Place
heads_on os n = met_among (partner_threads n.kind) (lane_of slot_of (met_lane n) os) (lane_of slot_of (Side true n) os)

-- how many leaves on these objects do
abbrev pub head_total : List PlainOffer → List PairedId → ℕ
head_total os [] = 0
head_total os (n ∷ ns) = length (heads_on os n) + head_total os ns

-- The place is the one of this number among those that were sought, and at most three looks were made for each of the lane that is not
-- after it. The last two are the looks before the search and after it.
pub record IsFoundEarly (sought : List Place) (k : ℕ) (lane : List Place) (p : Place) (was now : ℕ) : Type 0 where
  pub value : slice_get sought k ≡ Some p
  pub early : now + 3 * length (filter (before p) lane) ≤ was + 3 * length lane

-- The row begins with the head of this number among these rows, and no other row does.
pub record IsOnlyRow (rows : List Meet) (k : ℕ) (row : Meet) : Type 0 where
  pub head : slice_get (heads_of rows) k ≡ Some (place_of row)
  pub only : partners_of rows (place_of row) ≡ row ∷ []
