-- Threads that may stand on both sides of one channel, and the heads of channels on which nobody does.
use Rattle.std.proofs.Common.{◌≡◌, ℕ, suc, ◌+◌, ◌<◌, ◌≤◌, Bool, true, false, not, ◌&&◌, ◌||◌, nat_eq, nat_lt, cond}
use Rattle.std.proofs.Common.{List, [], ◌∷◌, ◌++◌, append_assoc, map, length, Option, Some, None, refl, ap, sym}
use Rattle.std.proofs.Common.{subst, ◌∙◌, arith}
use Rattle.std.specs.Bool.{beq}
use Rattle.std.specs.List.{filter, list_any}
use Rattle.std.proofs.lemmas.Bool.{and_parts}
use Rattle.std.proofs.lemmas.Bool.Decides.{nat_tests}
use Rattle.std.proofs.lemmas.List.{length-append}
use Rattle.std.proofs.lemmas.List.Elements.{filter-append}
use Rattle.std.proofs.lemmas.List.Filters.{length-filter_both}
use Rattle.cml_value.specs.Value.{PlainBase}
use Rattle.cml_value.specs.Group.{bases}
use Rattle.cml_value.specs.declared.number.Tid.{Tid}
use Rattle.cml_scan.specs.declared.meet.Place.{Place}
use Rattle.cml_scan.specs.World.{PlainEntry}
use Rattle.cml_scan.specs.Scan.{leaves_from, offers_of}
use Rattle.cml_scan.specs.Table.{with_entry}
use Rattle.cml_scan.specs.Order.{Every, IsSorted}
use Rattle.cml_scan.proofs.Leaving.{filters_swapped}
use Rattle.cml_scan.proofs.Ordered.{Every-append}
use Rattle.cml_objects.specs.declared.lane.PartnerThreads.TheVariants.{Others}
use Rattle.cml_objects.specs.Lanes.{is_own, is_others, run}
use Rattle.cml_objects.specs.Pairings.{same_object}
use Rattle.cml_objects.specs.declared.pairing.PairedId.{PairedId}
use Rattle.cml_index.specs.declared.slot.Slot.{Slot}
use Rattle.cml_index.specs.declared.slot.Slot.TheVariants.{Side, Waiters}
use Rattle.cml_index.specs.declared.slot.Wait.{Wait}
use Rattle.cml_index.specs.Slots.{is_slot, slot_in, slot_leaves, has_slot, lane_of}
use Rattle.cml_index.specs.Crossing.{is_on, meets_own, crosses}
use Rattle.cml_index.specs.Posts.{slot_of, is_crosser}
use Rattle.cml_index.specs.Heads.{met_among, heads_on}
use Rattle.cml_index.proofs.Walks.{same_slot_is, no_leaves}
use Rattle.cml_index.proofs.Parted.{between, lane-append, own_run, left_lane, leaves_all, filter_every}
use Rattle.cml_index.proofs.Counted.{one_if}
use Rattle.cml_index.proofs.Objects.{channel}

or_true : (b : Bool) → b || true ≡ true
or_true true = refl
or_true false = refl

-- what passes one test passes a weaker one
any_weaker : {X : Type 0} (p q : X → Bool) → ((x : X) → p x ≡ true → q x ≡ true) → (xs : List X) → list_any p xs ≡ true → list_any q xs ≡ true
any_weaker p q weaker [] e = cc
any_weaker p q weaker (x ∷ xs) e = at (p x) refl e (any_weaker p q weaker xs)
  where
    at : (b : Bool) → p x ≡ b → b || list_any p xs ≡ true → (list_any p xs ≡ true → list_any q xs ≡ true) → q x || list_any q xs ≡ true
    at true f g h = ap (λ b. b || list_any q xs) (weaker x f)
    at false f g h = ap (λ b. q x || b) (h g) ∙ or_true (q x)

-- ---- a group that does not cross

some_more : (n : ℕ) → nat_lt 0 (suc n) ≡ true
some_more n = grind (arith, nat_tests)

some_leaves : (k : Slot) (leaf : ℕ) (ss : List (Option Slot)) → has_slot k ss ≡ true → nat_lt 0 (length (slot_leaves k leaf ss)) ≡ true
some_leaves k leaf [] e = cc
some_leaves k leaf (s ∷ ss) e = at (is_slot k s) e (some_leaves k (leaf + 1) ss)
  where
    at : (b : Bool) → b || has_slot k ss ≡ true
        → (has_slot k ss ≡ true → nat_lt 0 (length (slot_leaves k (leaf + 1) ss)) ≡ true)
        → nat_lt 0 (length (cond b (leaf ∷ slot_leaves k (leaf + 1) ss) (slot_leaves k (leaf + 1) ss))) ≡ true
    at true e h = some_more (length (slot_leaves k (leaf + 1) ss))
    at false e h = h e

turned : (h g : Bool) → beq h g ≡ true → beq g h ≡ true
turned true true e = refl
turned false false e = refl
turned true false e = cc
turned false true e = cc

on_side : (h : Bool) (n : PairedId) (s : Option Slot) → is_slot (Side h n) s ≡ true → is_on h s ≡ true
on_side h n None e = cc
on_side h n (Some (Waiters l)) e = cc
on_side h n (Some (Side g m)) e = turned h g (and_parts (beq h g) (same_object n m) e).0

own_there : (n : PairedId) (ss : List (Option Slot)) → nat_lt 0 (length (slot_leaves (Side false n) 0 ss)) ≡ true → (s : Option Slot) → is_slot (Side true n) s ≡ true → meets_own ss s ≡ true
own_there n ss some None e = cc
own_there n ss some (Some k) e = subst (λ j. meets_own ss (Some j) ≡ true) (same_slot_is (Side true n) k e) some

all_true : (a b d w : Bool) → a ≡ true → b ≡ true → w ≡ true → a && (b && (d || w)) ≡ true
all_true false b d w e f g = cc
all_true true false d w e f g = cc
all_true true true d false e f g = cc
all_true true true d true e f g = or_true d

-- on an object no leaf stands on one side where one stands on the other
pub apart_sides : (ss : List (Option Slot)) → crosses ss ≡ false → (n : PairedId) → has_slot (Side true n) ss ≡ true → has_slot (Side false n) ss ≡ false
apart_sides ss off n on = at (has_slot (Side false n) ss) refl
  where
    at : (b : Bool) → has_slot (Side false n) ss ≡ b → b ≡ false
    at false e = refl
    at true e =
        let first : list_any (is_on true) ss ≡ true = any_weaker (is_slot (Side true n)) (is_on true) (on_side true n) ss on in
        let second : list_any (is_on false) ss ≡ true = any_weaker (is_slot (Side false n)) (is_on false) (on_side false n) ss e in
        let own : list_any (meets_own ss) ss ≡ true = any_weaker (is_slot (Side true n)) (meets_own ss) (own_there n ss (some_leaves (Side false n) 0 ss e)) ss on in
        let whole : crosses ss ≡ true = all_true (list_any (is_on true) ss) (list_any (is_on false) ss) (nat_lt 64 (length ss)) (list_any (meets_own ss) ss) first second own in
        sym whole ∙ off

-- one leaf alone does not stand on two sides
pub one_side : (ws : List Wait) → length ws < 2 → false ≡ crosses (map slot_in ws)
one_side [] h = refl
one_side (w ∷ []) h = at (slot_in w)
  where
    at : (s : Option Slot) → false ≡ crosses (s ∷ [])
    at None = refl
    at (Some (Waiters l)) = refl
    at (Some (Side true n)) = refl
    at (Some (Side false n)) = refl
one_side (w ∷ v ∷ ws) h = absurd (omega (arith, h))

-- ---- how many threads may

-- each of them has a leaf
pub cross_leaf : (e : PlainEntry) → one_if (is_crosser e) 1 ≤ length (bases e.group)
cross_leaf e = at (bases e.group)
  where
    most : (b : Bool) (n : ℕ) → one_if b 1 ≤ suc n
    most true n = omega arith
    most false n = omega arith

    nothing : 0 ≤ 0
    nothing = omega arith

    at : (bs : List PlainBase) → one_if (crosses (map slot_of bs)) 1 ≤ length bs
    at [] = nothing
    at (b ∷ bs) = most (crosses (map slot_of (b ∷ bs))) (length bs)

pub crossers_few : (es : List PlainEntry) → length (filter is_crosser es) ≤ length (offers_of es)
crossers_few [] = omega arith
crossers_few (e ∷ es) =
    let whole : length (leaves_from e.thread 0 (bases e.group) ++ offers_of es)
    ≡ length (leaves_from e.thread 0 (bases e.group)) + length (offers_of es) = length-append
    (leaves_from e.thread 0 (bases e.group)) (offers_of es) in
    let own : length (leaves_from e.thread 0 (bases e.group)) ≡ length (bases e.group) = leaves_all e.thread 0 (bases e.group) in
    at (is_crosser e) whole own (cross_leaf e) (crossers_few es)
  where
    at : (b : Bool) → length (leaves_from e.thread 0 (bases e.group) ++ offers_of es)
        ≡ length (leaves_from e.thread 0 (bases e.group)) + length (offers_of es)
        → length (leaves_from e.thread 0 (bases e.group)) ≡ length (bases e.group)
        → one_if b 1 ≤ length (bases e.group) → length (filter is_crosser es) ≤ length (offers_of es)
        → length (cond b (e ∷ filter is_crosser es) (filter is_crosser es)) ≤ length
        (leaves_from e.thread 0 (bases e.group) ++ offers_of es)
    at true whole own one h = let some : 1 ≤ length (bases e.group) = one in omega (arith, whole, own, some, h)
    at false whole own one h = omega (arith, whole, h)

-- those of one entry, and those of the others
pub left_those : (f : PlainEntry → Bool) (t : ℕ) (es : List PlainEntry) (d : PlainEntry) → filter (λ e. nat_eq t e.thread) es ≡ d ∷ []
    → length (filter f es) ≡ one_if (f d) 1 + length (filter f (filter (λ e. not (nat_eq t e.thread)) es))
left_those f t es d own =
    let P : PlainEntry → Bool = λ e. nat_eq t e.thread in
    let Q : PlainEntry → Bool = λ e. not (nat_eq t e.thread) in
    let parts : length (filter P (filter f es)) + length (filter Q (filter f es)) ≡ length (filter f es) = length-filter_both P Q (λ _. refl) (filter f es) in
    let mine : length (filter P (filter f es)) ≡ one_if (f d) 1 = ap length (filters_swapped P f es ∙ ap (filter f) own) ∙ one (f d) in
    let rest : length (filter Q (filter f es)) ≡ length (filter f (filter Q es)) = ap length (filters_swapped Q f es) in
    omega (arith, parts, mine, rest)
  where
    one : (b : Bool) → length (cond b (d ∷ []) []) ≡ one_if b 1
    one true = refl
    one false = refl

pub came_those : (f : PlainEntry → Bool) (e : PlainEntry) (es : List PlainEntry) → IsSorted es
    → Every (λ x. not (nat_eq e.thread x.thread)) es → length (filter f (with_entry e es))
    ≡ length (filter f es) + one_if (f e) 1
came_those f e es up apart =
    let low : List PlainEntry = filter (λ x. nat_lt x.thread e.thread) es in
    let high : List PlainEntry = filter (λ x. nat_lt e.thread x.thread) es in
    let a : length (filter f es) ≡ length (filter f low) + length (filter f high) = ap (λ xs. length (filter f xs))
    (sym (between e.thread es up apart)) ∙ ap length (filter-append f low high)
    ∙ length-append (filter f low) (filter f high) in
    let b : length (filter f (with_entry e es))
    ≡ length (filter f low) + length (filter f (e ∷ high)) = ap length (filter-append f low (e ∷ high))
    ∙ length-append (filter f low) (filter f (e ∷ high)) in
    let c : length (filter f (e ∷ high)) ≡ one_if (f e) 1 + length (filter f high) = one (f e) (filter f high) in
    omega (arith, a, b, c)
  where
    one : (b : Bool) (xs : List PlainEntry) → length (cond b (e ∷ xs) xs) ≡ one_if b 1 + length xs
    one true xs = omega arith
    one false xs = omega arith

-- ---- where nobody does

none_at : (f : PlainEntry → Bool) (ys xs : List PlainEntry) (x : PlainEntry) → length (filter f (ys ++ x ∷ xs)) ≡ 0 → f x ≡ false
none_at f [] xs x e = at (f x) e
  where
    at : (b : Bool) → length (cond b (x ∷ filter f xs) (filter f xs)) ≡ 0 → b ≡ false
    at true e = absurd (omega (arith, e))
    at false e = refl
none_at f (y ∷ ys) xs x e = at (f y) e (none_at f ys xs x)
  where
    at : (b : Bool) → length (cond b (y ∷ filter f (ys ++ x ∷ xs)) (filter f (ys ++ x ∷ xs))) ≡ 0
        → (length (filter f (ys ++ x ∷ xs)) ≡ 0 → f x ≡ false) → f x ≡ false
    at true e h = absurd (omega (arith, e))
    at false e h = h e

every_at : (p : PlainEntry → Bool) (ys xs : List PlainEntry) (x : PlainEntry) → Every p (ys ++ x ∷ xs) → p x ≡ true
every_at p [] xs x each = each.0
every_at p (y ∷ ys) xs x each = every_at p ys xs x each.1

-- of threads that ascend one entry is the thread's
sorted_own : (ys xs : List PlainEntry) (x : PlainEntry) → IsSorted (ys ++ x ∷ xs) → filter (λ e. nat_eq x.thread e.thread) (ys ++ x ∷ xs) ≡ x ∷ []
sorted_own [] xs x up = rw (same x.thread) (ap (λ zs. x ∷ zs) (later xs up.0))
  where
    same : (a : ℕ) → nat_eq a a ≡ true
    same a = grind (arith, nat_tests)

    above : (a b : ℕ) → nat_lt a b ≡ true → nat_eq a b ≡ false
    above a b e = grind (arith, nat_tests)

    later : (zs : List PlainEntry) → Every (λ z. nat_lt x.thread z.thread) zs → filter (λ e. nat_eq x.thread e.thread) zs ≡ []
    later [] each = refl
    later (z ∷ zs) each = rw (above x.thread z.thread each.0) (later zs each.1)
sorted_own (y ∷ ys) xs x up = rw (below y.thread x.thread (every_at (λ z. nat_lt y.thread z.thread) ys xs x up.0)) (sorted_own ys xs x up.1)
  where
    below : (a b : ℕ) → nat_lt a b ≡ true → nat_eq b a ≡ false
    below a b e = grind (arith, nat_tests)

any_others : (tid : Tid) (rs : List Place) → 0 < length rs → length (filter (is_own tid) rs) ≡ 0 → list_any (is_others tid) rs ≡ true
any_others tid [] some none = absurd (omega (arith, some))
any_others tid (r ∷ rs) some none = at (is_own tid r) refl none
  where
    at : (b : Bool) → is_own tid r ≡ b → length (cond b (r ∷ filter (is_own tid) rs) (filter (is_own tid) rs)) ≡ 0 → list_any (is_others tid) (r ∷ rs) ≡ true
    at true e f = absurd (omega (arith, f))
    at false e f = ap (λ b. not b || list_any (is_others tid) rs) e

every_run : (p : Place → Bool) (tid : Tid) (ls : List ℕ) → ((leaf : ℕ) → p (record { tid = tid; leaf = leaf }) ≡ true) → Every p (run tid ls)
every_run p tid [] all = tt
every_run p tid (l ∷ ls) all = (all l, every_run p tid ls all)

module _ (es : List PlainEntry) (up : IsSorted es) (none : length (filter is_crosser es) ≡ 0) (n : PairedId) (some : 0 < length (lane_of slot_of (Side false n) (offers_of es))) where
  abbrev others_there : List Place
  others_there = lane_of slot_of (Side false n) (offers_of es)

  abbrev is_met_there : Place → Bool
  is_met_there q = list_any (is_others q.tid) others_there

  own_met : (ys xs : List PlainEntry) (x : PlainEntry) → es ≡ ys ++ x ∷ xs → Every is_met_there (lane_of slot_of (Side true n) (leaves_from x.thread 0 (bases x.group)))
  own_met ys xs x is = subst (Every is_met_there) (sym (own_run slot_of (Side true n) tid 0 (bases x.group))) (at (has_slot (Side true n) ss) refl)
    where
      tid : Tid
      tid = record { 0 = x.thread }

      ss : List (Option Slot)
      ss = map slot_of (bases x.group)

      own : filter (λ e. nat_eq tid.0 e.thread) es ≡ x ∷ []
      own = subst (λ zs. filter (λ e. nat_eq x.thread e.thread) zs ≡ x ∷ []) (sym is) (sorted_own ys xs x (subst IsSorted is up))

      stays : crosses ss ≡ false
      stays = none_at is_crosser ys xs x (subst (λ zs. length (filter is_crosser zs) ≡ 0) is none)

      at : (b : Bool) → has_slot (Side true n) ss ≡ b → Every is_met_there (run tid (slot_leaves (Side true n) 0 ss))
      at false e = subst (λ ls. Every is_met_there (run tid ls)) (sym (no_leaves (Side true n) 0 ss e)) tt
      at true e =
          let zero_ : length (filter (is_own tid) others_there) ≡ 0 = sym (left_lane slot_of (Side false n) tid es x own refl) ∙ ap length (no_leaves (Side false n) 0 ss (apart_sides ss stays n e)) in
          every_run is_met_there tid (slot_leaves (Side true n) 0 ss) (λ leaf. any_others tid others_there some zero_)

  all_met_from : (ys xs : List PlainEntry) → es ≡ ys ++ xs → Every is_met_there (lane_of slot_of (Side true n) (offers_of xs))
  all_met_from ys [] is = tt
  all_met_from ys (x ∷ xs) is =
      subst (Every is_met_there) (sym (lane-append slot_of (Side true n) (leaves_from x.thread 0 (bases x.group)) (offers_of xs)))
      (Every-append is_met_there (lane_of slot_of (Side true n) (leaves_from x.thread 0 (bases x.group)))
      (lane_of slot_of (Side true n) (offers_of xs)) (own_met ys xs x is)
      (all_met_from (ys ++ x ∷ []) xs (is ∙ sym (append_assoc ys (x ∷ []) xs))))

  -- each offer that can stand first there has a partner
  pub all_have_partners : met_among Others (lane_of slot_of (Side false n) (offers_of es)) (lane_of slot_of (Side true n) (offers_of es)) ≡ lane_of slot_of (Side true n) (offers_of es)
  all_have_partners = filter_every is_met_there (lane_of slot_of (Side true n) (offers_of es)) (all_met_from [] es refl)

-- so on a channel where somebody receives the heads are all that send
pub channel_heads : (es : List PlainEntry) → IsSorted es → length (filter is_crosser es) ≡ 0 → (m : ℕ)
    → 0 < length (lane_of slot_of (Side false (channel m)) (offers_of es))
    → length (heads_on (offers_of es) (channel m)) ≡ length (lane_of slot_of (Side true (channel m)) (offers_of es))
channel_heads es up none m some = ap length (all_have_partners es up none (channel m) some)
