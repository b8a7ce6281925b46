-- Which communications are possible now, and in which order they are listed.
use Rattle.std.specs.Prelude.{ℕ, ◌+◌, ◌==◌, Bool, false, not, nat_lt, ◌&&◌, ◌||◌, if◌then◌else◌, List, [], ◌∷◌, ◌++◌, map, filter}
use Rattle.std.specs.List.{flat_map, list_any}
use Rattle.cml_value.specs.Value.{PlainBase, always, send, recv, swap, iget, mtake, mget, mswap, mail_recv, port_recv, join, at_tick, after_ticks, nack}
use Rattle.cml_value.specs.Group.{bases}
use Rattle.cml_value.specs.declared.number.Tid.{Tid}
use Rattle.cml_scan.specs.World.{PlainWorld, PlainEntry, pending}
use Rattle.cml_scan.specs.Light.{lit, lit_by}
use Rattle.cml_scan.specs.declared.object.Light.{Light}
use Rattle.cml_scan.specs.declared.meet.Meet.{Meet}
use Rattle.cml_scan.specs.declared.meet.Meet.TheVariants.{Single, Pair}
use Rattle.cml_scan.specs.declared.meet.Place.{Place}

-- a leaf of a pending thread, with its base event
pub record PlainOffer : Type 0 where
  pub thread : ℕ
  pub leaf : ℕ
  pub base : PlainBase

-- the leaves of one thread with these base events, numbered from this number on
abbrev pub leaves_from : ℕ → ℕ → List PlainBase → List PlainOffer
leaves_from thread leaf [] = []
leaves_from thread leaf (b ∷ bs) = record { thread = thread; leaf = leaf; base = b } ∷ leaves_from thread (leaf + 1) bs

-- the leaves of all these threads, by thread and leaf
abbrev pub offers_of : List PlainEntry → List PlainOffer
offers_of entries = flat_map (λ e. leaves_from e.thread 0 (bases e.group)) entries

-- the base receives on this channel
abbrev pub receives_on : ℕ → PlainBase → Bool
receives_on c (recv d) = c == d
receives_on c _ = false

-- the base swaps on this swap channel
abbrev pub swaps_on : ℕ → PlainBase → Bool
swaps_on s (swap r v) = s == r
swaps_on s _ = false

-- Whether the two are the sides of one communication, the first as its head: the first sends and the second receives, on one
-- channel (Reppy's matching of sendEvt and recvEvt), or both swap on one swap channel (a rule of this project's own).
abbrev pub meets : PlainBase → PlainBase → Bool
meets (send c v) b = receives_on c b
meets (swap s v) b = swaps_on s b
meets (always v) b = false
meets (recv c) b = false
meets (iget i) b = false
meets (mtake m) b = false
meets (mget m) b = false
meets (mswap m v) b = false
meets (mail_recv m) b = false
meets (port_recv p) b = false
meets (join t) b = false
meets (at_tick t) b = false
meets (after_ticks d) b = false
meets (nack k) b = false

-- Whether two leaves of these threads with these base events communicate, the first as the head. They are of two different threads:
-- no synchronization matches itself. Where either of the two could be the head, as with two swaps, the one of the lower thread is.
abbrev pub do_meet : ℕ → PlainBase → ℕ → PlainBase → Bool
do_meet head b other c = not (head == other) && (meets b c && (not (meets c b) || nat_lt head other))

-- whether two leaves communicate, the first as the head
abbrev pub can_meet : PlainOffer → PlainOffer → Bool
can_meet head other = do_meet head.thread head.base other.thread other.base

-- a leaf that is taken alone, and two that communicate, as rows of the table
abbrev pub single : PlainOffer → Meet
single o = Single (record { 0 = o.thread }) o.leaf

abbrev pub pair : PlainOffer → PlainOffer → Meet
pair head other = Pair (record { 0 = head.thread }) head.leaf (record { 0 = other.thread }) other.leaf

-- the rows that this leaf heads, with those of these leaves that can meet it
abbrev pub pairs_with : List PlainOffer → PlainOffer → List Meet
pairs_with offers head = map (pair head) (filter (can_meet head) offers)

-- The rows in their order. First comes each leaf that can be taken alone. Then come the leaves that can meet, two by two: first in the order
-- of the heads, and for one head in the order of the others.
abbrev pub rows_of : (PlainBase → Bool) → List PlainOffer → List Meet
rows_of is_lit offers = map single (filter (λ o. is_lit o.base) offers) ++ flat_map (pairs_with offers) offers

-- The scan: all communications that are possible now, found by looking at every leaf and at every two leaves of the pending threads.
abbrev pub scan : PlainWorld → List Meet
scan w = rows_of (lit w) (offers_of (pending w))

-- the same of these pending threads, where `told` says which lights are lit
abbrev pub scan_of : List PlainEntry → (Light → Bool) → List Meet
scan_of entries told = rows_of (lit_by told) (offers_of entries)

-- the place that begins a row: its only leaf, or the head
abbrev pub place_of : Meet → Place
place_of (Single tid leaf) = record { tid = tid; leaf = leaf }
place_of (Pair head head_leaf other other_leaf) = record { tid = head; leaf = head_leaf }

abbrev pub same_place : Place → Place → Bool
same_place p q = p.tid.0 == q.tid.0 && p.leaf == q.leaf

-- those of these places that are not among the ones seen, each once, in order of first appearance
abbrev pub firsts_after : List Place → List Place → List Place
firsts_after seen [] = []
firsts_after seen (p ∷ ps) = if list_any (same_place p) seen then firsts_after seen ps else p ∷ firsts_after (seen ++ p ∷ []) ps

-- the places that begin one of these rows, each once, in order of first appearance
abbrev pub heads_of : List Meet → List Place
heads_of rows = firsts_after [] (map place_of rows)

-- those of these rows that begin at this place, in order
abbrev pub partners_of : List Meet → Place → List Meet
partners_of rows head = filter (λ row. same_place head (place_of row)) rows

abbrev pub heads : PlainWorld → List Place
heads w = heads_of (scan w)

abbrev pub partners : PlainWorld → Place → List Meet
partners w head = partners_of (scan w) head

abbrev pub same_row : Meet → Meet → Bool
same_row (Single t l) (Single u m) = t.0 == u.0 && l == m
same_row (Single t l) (Pair u m v n) = false
same_row (Pair t k o j) (Single u m) = false
same_row (Pair t k o j) (Pair u m v n) = (t.0 == u.0 && k == m) && (o.0 == v.0 && j == n)

-- the row is one of these
abbrev pub has_row : List Meet → Meet → Bool
has_row rows row = list_any (same_row row) rows

-- the thread is one of these
abbrev pub is_among : List Tid → ℕ → Bool
is_among tids thread = list_any (λ t. t.0 == thread) tids

-- the row names one of these threads
abbrev pub names : List Tid → Meet → Bool
names gone (Single tid leaf) = is_among gone tid.0
names gone (Pair head head_leaf other other_leaf) = is_among gone head.0 || is_among gone other.0
