-- The order of threads, leaves and rows.
use Rattle.std.specs.Prelude.{ℕ, ◌+◌, ◌≡◌, ◌==◌, Bool, true, false, not, ◌&&◌, ◌||◌, if◌then◌else◌, nat_lt, List, [], ◌∷◌, Option, Some, None}
use Rattle.std.specs.List.{list_any}
use Rattle.cml_value.specs.Value.{PlainBase}
use Rattle.cml_scan.specs.World.{PlainEntry}
use Rattle.cml_scan.specs.Scan.{PlainOffer, receives_on, swaps_on, do_meet, can_meet, place_of, same_place}
use Rattle.cml_scan.specs.declared.meet.Meet.{Meet}
use Rattle.cml_scan.specs.declared.meet.Meet.TheVariants.{Single, Pair}
use Rattle.cml_scan.specs.declared.meet.Place.{Place}

-- the test holds of each
abbrev pub Every : {X : Type 0} → (X → Bool) → List X → Type 0
Every test [] = Unit {0}
Every test (x ∷ xs) = (test x ≡ true) × Every test xs

-- each stands before all later ones in this order
abbrev pub Ascends : {X : Type 0} → (X → X → Bool) → List X → Type 0
Ascends before [] = Unit {0}
Ascends before (x ∷ xs) = Every (before x) xs × Ascends before xs

-- the pending threads ascend
abbrev pub IsSorted : List PlainEntry → Type 0
IsSorted entries = Ascends (λ e f. nat_lt e.thread f.thread) entries

-- the place of a leaf
abbrev pub place : PlainOffer → Place
place o = record { tid = record { 0 = o.thread }; leaf = o.leaf }

-- the first pair of numbers comes before the second
abbrev pub before_numbers : ℕ → ℕ → ℕ → ℕ → Bool
before_numbers a b c d = nat_lt a c || (a == c && nat_lt b d)

-- the first place comes before the second, by thread and leaf
abbrev pub before : Place → Place → Bool
before p q = before_numbers p.tid.0 p.leaf q.tid.0 q.leaf

-- the first row comes before the second: singles before pairs, singles by thread and leaf, pairs by the head and then by the other
abbrev pub row_before : Meet → Meet → Bool
row_before (Single t k) (Single u l) = before_numbers t.0 k u.0 l
row_before (Single t k) (Pair u l p n) = true
row_before (Pair t k o m) (Single u l) = false
row_before (Pair t k o m) (Pair u l p n) = before_numbers t.0 k u.0 l || ((t.0 == u.0 && k == l) && before_numbers o.0 m p.0 n)

-- the base event of the leaf at this place, if one of these leaves stands there
abbrev pub base_at : Place → List PlainOffer → Option PlainBase
base_at p [] = None
base_at p (o ∷ os) = if same_place p (place o) then Some o.base else base_at p os

-- there is a base event, and by this test it can be taken alone
abbrev pub is_lit_there : (PlainBase → Bool) → Option PlainBase → Bool
is_lit_there is_lit None = false
is_lit_there is_lit (Some b) = is_lit b

-- there are two base events, and as leaves of these threads they communicate, the first as the head
abbrev pub meet_at : ℕ → ℕ → Option PlainBase → Option PlainBase → Bool
meet_at head other None c = false
meet_at head other (Some b) None = false
meet_at head other (Some b) (Some c) = do_meet head b other c

-- whether a row is possible, by the base events at its places
abbrev pub row_at : (PlainBase → Bool) → (Place → Option PlainBase) → Meet → Bool
row_at is_lit at (Single tid leaf) = is_lit_there is_lit (at (record { tid = tid; leaf = leaf }))
row_at is_lit at (Pair head head_leaf other other_leaf) = meet_at head.0 other.0 (at (record { tid = head; leaf = head_leaf })) (at (record { tid = other; leaf = other_leaf }))

-- whether this leaf receives on the channel, for a thread other than this one
abbrev pub can_take : ℕ → ℕ → PlainOffer → Bool
can_take thread c o = not (thread == o.thread) && receives_on c o.base

-- whether this leaf swaps on the swap channel, for a thread above this one
abbrev pub can_swap : ℕ → ℕ → PlainOffer → Bool
can_swap thread s o = nat_lt thread o.thread && swaps_on s o.base

-- whether one of these leaves can meet this one, which is the head
abbrev pub has_partner : List PlainOffer → PlainOffer → Bool
has_partner offers head = list_any (can_meet head) offers

-- how many of these rows stand before the first one that begins at this place
abbrev pub first_row : Place → List Meet → ℕ
first_row p [] = 0
first_row p (row ∷ rows) = if same_place p (place_of row) then 0 else first_row p rows + 1
