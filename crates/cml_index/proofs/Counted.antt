-- The leaves that have a partner, object by object.
use Rattle.std.proofs.Common.{◌≡◌, ℕ, suc, ◌+◌, ◌≤◌, Bool, true, false, ◌||◌, nat_eq, nat_lt, cond, List, [], ◌∷◌}
use Rattle.std.proofs.Common.{◌++◌, append_assoc, map, length, Option, Some, None, refl, ap, sym, subst, ◌∙◌, arith}
use Rattle.std.specs.List.{filter, list_any, IsDistinct, AllByRecursion}
use Rattle.std.proofs.lemmas.Bool.Decides.{nat_tests}
use Rattle.std.proofs.lemmas.Map.Keys.{IsDistinct-head, IsDistinct-tail}
use Rattle.cml_value.specs.Value.{PlainBase}
use Rattle.cml_value.specs.declared.number.Tid.{Tid}
use Rattle.cml_scan.specs.Scan.{PlainOffer}
use Rattle.cml_scan.specs.Order.{place, has_partner}
use Rattle.cml_scan.specs.declared.meet.Place.{Place}
use Rattle.std.specs.Prelude.{option_map}
use Rattle.cml_scan.specs.declared.object.Light.{Light}
use Rattle.cml_scan.specs.Light.{light}
use Rattle.cml_objects.specs.declared.lane.PartnerThreads.TheVariants.{Others, Above}
use Rattle.cml_index.specs.declared.lanes.Lanes.{Lanes}
use Rattle.cml_index.specs.declared.live.Live.{Live}
use Rattle.cml_objects.specs.Lanes.{is_own, is_others, is_of}
use Rattle.cml_objects.specs.Pairings.{one_lane, same_object, side_place, partner_threads}
use Rattle.cml_objects.specs.declared.pairing.PairedId.{PairedId}
use Rattle.cml_objects.specs.declared.pairing.SidePlace.{SidePlace}
use Rattle.cml_objects.proofs.Pairs.{same_object_is, same_object_self}
use Rattle.cml_index.specs.Slot.{met_lane, slot_by, met_at, met_by}
use Rattle.cml_index.proofs.Walks.{same_object-turned}
use Rattle.cml_index.specs.declared.slot.Slot.{Slot}
use Rattle.cml_index.specs.declared.slot.Slot.TheVariants.{Side, Waiters}
use Rattle.cml_index.specs.Live.{may_meet, AreLive, objects}
use Rattle.cml_index.proofs.Objects.{in_objects}
use Rattle.cml_index.specs.Slots.{is_slot, lane_at, lane_of, AreLanes}
use Rattle.cml_index.specs.Posts.{slot_of}
use Rattle.cml_index.specs.Heads.{met_among, heads_on, head_total}
use Rattle.cml_index.proofs.Pairs.{any_by, partner_met}

-- the sum of these numbers over all of these objects
abbrev pub total : (PairedId → ℕ) → List PairedId → ℕ
total f [] = 0
total f (n ∷ ns) = f n + total f ns

total_same : (f g : PairedId → ℕ) (ns : List PairedId) → ((n : PairedId) → f n ≡ g n) → total f ns ≡ total g ns
total_same f g [] same = refl
total_same f g (n ∷ ns) same = rw (same n, total_same f g ns same) refl

total_zero : (f : PairedId → ℕ) (ns : List PairedId) → ((n : PairedId) → f n ≡ 0) → total f ns ≡ 0
total_zero f [] none = refl
total_zero f (n ∷ ns) none = let a = none n in let b = total_zero f ns none in omega (arith, a, b)

total_add : (f g h : PairedId → ℕ) (ns : List PairedId) → ((n : PairedId) → f n ≡ g n + h n) → total f ns ≡ total g ns + total h ns
total_add f g h [] same = omega arith
total_add f g h (n ∷ ns) same = let a = same n in let b = total_add f g h ns same in omega (arith, a, b)

pub head_total_is : (os : List PlainOffer) (ns : List PairedId) → head_total os ns ≡ total (λ n. length (heads_on os n)) ns
head_total_is os [] = refl
head_total_is os (n ∷ ns) = ap (λ k. length (heads_on os n) + k) (head_total_is os ns)

-- one where the test holds
abbrev pub one_if : Bool → ℕ → ℕ
one_if b k = cond b k 0

apart : (k m y : PairedId) → same_object k m ≡ true → same_object k y ≡ false → same_object m y ≡ false
apart k m y e f = subst (λ x. same_object x y ≡ false) (same_object_is k m e) f

none_later : (k m : PairedId) (w : ℕ) (ks : List PairedId) → same_object k m ≡ true → AllByRecursion (λ y. same_object k y ≡ false) ks → total (λ n. one_if (same_object n m) w) ks ≡ 0
none_later k m w [] e all = refl
none_later k m w (y ∷ ks) e all =
    let off : same_object y m ≡ false = same_object-turned y m ∙ apart k m y e all.0 in
    let rest = none_later k m w ks e all.1 in
    rw off (omega (arith, rest))

-- of distinct objects one at most is this one
pub once : (m : PairedId) (w : ℕ) (ks : List PairedId) → IsDistinct same_object ks → total (λ n. one_if (same_object n m) w) ks ≡ one_if (list_any (same_object m) ks) w
once m w [] apart_ = refl
once m w (k ∷ ks) apart_ = at (same_object k m) (same_object m k) refl refl (once m w ks (IsDistinct-tail same_object k ks apart_))
  where
    at : (b c : Bool) → same_object k m ≡ b → same_object m k ≡ c → total (λ n. one_if (same_object n m) w) ks ≡ one_if (list_any (same_object m) ks) w
        → one_if b w + total (λ n. one_if (same_object n m) w) ks ≡ one_if (c || list_any (same_object m) ks) w
    at true true e f h = let rest : total (λ n. one_if (same_object n m) w) ks ≡ 0 = none_later k m w ks e (IsDistinct-head same_object k ks apart_) in omega (arith, rest)
    at true false e f h = let no_ : true ≡ false = sym e ∙ same_object-turned k m ∙ f in cc
    at false true e f h = let no_ : false ≡ true = sym e ∙ same_object-turned k m ∙ f in cc
    at false false e f h = omega (arith, h)

-- a base event can stand first on an object, and meets the lane of those whom such a one meets, or it stands in no such lane and meets none
pub by_shape : {P : Type 0} (tid : Tid) (b : PlainBase)
    → (met_by b tid ≡ None → ((n : PairedId) → is_slot (Side true n) (slot_of b) ≡ false) → P)
    → ((m : PairedId) → slot_of b ≡ Some (Side true m) → met_by b tid ≡ Some (met_lane m, partner_threads m.kind tid)
    → P) → P
by_shape {P = P} tid b other head = at (side_place b) refl
  where
    away : (n : PairedId) (m : Option Light) → is_slot (Side true n) (option_map Waiters m) ≡ false
    away n None = refl
    away n (Some l) = refl

    two : (s : SidePlace) (h : Bool) → side_place b ≡ Some s → s.heads ≡ h → P
    two s true e f = head s.object (ap (λ x. slot_by x b) e ∙ ap (λ g. Some (Side g s.object)) f)
        (ap (λ x. met_at x tid) e ∙ ap (λ g. cond g (Some (met_lane s.object, partner_threads s.object.kind tid)) None)
        f)
    two s false e f =
        other (ap (λ x. met_at x tid) e ∙ ap (λ g. cond g (Some (met_lane s.object, partner_threads s.object.kind tid)) None) f)
        (λ n. ap (λ x. is_slot (Side true n) (slot_by x b)) e ∙ ap (λ g. is_slot (Side true n) (Some (Side g s.object))) f)

    at : (x : Option SidePlace) → side_place b ≡ x → P
    at (Some s) e = two s s.heads e refl
    at None e = other (ap (λ x. met_at x tid) e) (λ n. ap (λ x. is_slot (Side true n) (slot_by x b)) e ∙ away n (light b))

-- these objects are those on which two of these offers may meet
abbrev pub AreBoth : List PairedId → List PlainOffer → Type 0
AreBoth keys os = (n : PairedId) → list_any (same_object n) keys ≡ may_meet (one_lane n.kind) (length (lane_of slot_of (Side true n) os)) (length (lane_of slot_of (Side false n) os))

-- the objects that are kept are those on which two offers may meet
pub both_kept : (lanes : Lanes) (live : Live) (os : List PlainOffer) → AreLive lanes live → AreLanes slot_of lanes os → AreBoth (objects live) os
both_kept lanes live os sides placed = λ n. sym (in_objects live n) ∙ sides n
    ∙ ap (λ ps. may_meet (one_lane n.kind) (length ps) (length (lane_at lanes (Side false n)))) (placed (Side true n))
    ∙ ap (λ ps. may_meet (one_lane n.kind) (length (lane_of slot_of (Side true n) os)) (length ps))
    (placed (Side false n))

any_some : (p : Place → Bool) (ps : List Place) → list_any p ps ≡ true → nat_lt 0 (length ps) ≡ true
any_some p [] e = cc
any_some p (q ∷ ps) e = more (length ps)
  where
    more : (n : ℕ) → nat_lt 0 (suc n) ≡ true
    more n = grind (arith, nat_tests)

-- where one of a thread and one of a thread above it stand there are two
two_there : (tid : Tid) (ps : List Place) → list_any (is_own tid) ps ≡ true → list_any (is_of (Above tid)) ps ≡ true → nat_lt 1 (length ps) ≡ true
two_there tid [] e f = cc
two_there tid (q ∷ []) e f = at q.tid.0 tid.0 e f
  where
    at : (a t : ℕ) → nat_eq t a || false ≡ true → nat_lt t a || false ≡ true → nat_lt 1 1 ≡ true
    at a t e f = grind (arith, nat_tests)
two_there tid (q ∷ r ∷ ps) e f = more (length ps)
  where
    more : (n : ℕ) → nat_lt 1 (suc (suc n)) ≡ true
    more n = grind (arith, nat_tests)

-- a leaf stands in its lane
pub stands : (ys xs : List PlainOffer) (x : PlainOffer) (k : Slot) → is_slot k (slot_of x.base) ≡ true → list_any (is_own (record { 0 = x.thread })) (lane_of slot_of k (ys ++ x ∷ xs)) ≡ true
stands [] xs x k e = rw (e, alike x.thread) refl
  where
    alike : (n : ℕ) → nat_eq n n ≡ true
    alike n = grind (arith, nat_tests)
stands (y ∷ ys) xs x k e = at (is_slot k (slot_of y.base)) (stands ys xs x k e)
  where
    or_true : (b : Bool) → b || true ≡ true
    or_true true = refl
    or_true false = refl

    at : (b : Bool) → list_any (is_own (record { 0 = x.thread })) (lane_of slot_of k (ys ++ x ∷ xs)) ≡ true
        → list_any (is_own (record { 0 = x.thread }))
        (map place (cond b (y ∷ filter (λ o. is_slot k (slot_of o.base)) (ys ++ x ∷ xs))
        (filter (λ o. is_slot k (slot_of o.base)) (ys ++ x ∷ xs)))) ≡ true
    at true h = ap (λ r. is_own (record { 0 = x.thread }) (place y) || r) h ∙ or_true _
    at false h = h

-- how many offers stand on both sides of an object
abbrev pub size_on : List PlainOffer → PairedId → ℕ
size_on xs n = length (lane_of slot_of (Side true n) xs) + length (lane_of slot_of (Side false n) xs)

module _ (os : List PlainOffer) (keys : List PairedId) (apart_ : IsDistinct same_object keys) (both : AreBoth keys os) where
  abbrev thread_of : PlainOffer → Tid
  thread_of x = record { 0 = x.thread }

  -- whether a leaf of the thread that stands first has a partner on the object
  abbrev meets_on : PairedId → PlainOffer → Bool
  meets_on n x = list_any (is_of (partner_threads n.kind (thread_of x))) (lane_of slot_of (met_lane n) os)

  -- one leaf is counted once where it has a partner
  pub one_leaf : (x : PlainOffer) → ((n : PairedId) → is_slot (Side true n) (slot_of x.base) ≡ true → list_any (is_own (thread_of x)) (lane_of slot_of (Side true n) os) ≡ true)
      → total (λ n. one_if (is_slot (Side true n) (slot_of x.base)) (one_if (meets_on n x) 1)) keys ≡ one_if (has_partner os x) 1
  one_leaf x there = by_shape (thread_of x) x.base other head
    where
      other : met_by x.base (thread_of x) ≡ None → ((n : PairedId) → is_slot (Side true n) (slot_of x.base) ≡ false)
          → total (λ n. one_if (is_slot (Side true n) (slot_of x.base)) (one_if (meets_on n x) 1)) keys
          ≡ one_if (has_partner os x) 1
      other none off =
          total_zero (λ n. one_if (is_slot (Side true n) (slot_of x.base)) (one_if (meets_on n x) 1)) keys (λ n. ap (λ b. one_if b (one_if (meets_on n x) 1)) (off n))
          ∙ sym (ap (λ b. one_if b 1) (partner_met os (thread_of x) x.leaf x.base ∙ ap (any_by os) none))

      head : (m : PairedId) → slot_of x.base ≡ Some (Side true m) → met_by x.base (thread_of x)
          ≡ Some (met_lane m, partner_threads m.kind (thread_of x))
          → total (λ n. one_if (is_slot (Side true n) (slot_of x.base)) (one_if (meets_on n x) 1)) keys
          ≡ one_if (has_partner os x) 1
      head m is met =
          total_same (λ n. one_if (is_slot (Side true n) (slot_of x.base)) (one_if (meets_on n x) 1)) (λ n. one_if (same_object n m) (one_if (meets_on m x) 1)) keys each
          ∙ once m (one_if (meets_on m x) 1) keys apart_
          ∙ at (meets_on m x) refl
          ∙ sym (ap (λ b. one_if b 1) (partner_met os (thread_of x) x.leaf x.base ∙ ap (any_by os) met))
        where
          each : (n : PairedId) → one_if (is_slot (Side true n) (slot_of x.base)) (one_if (meets_on n x) 1) ≡ one_if (same_object n m) (one_if (meets_on m x) 1)
          each n = ap (λ s. one_if (is_slot (Side true n) s) (one_if (meets_on n x) 1)) is ∙ pick (same_object n m) refl
            where
              pick : (b : Bool) → same_object n m ≡ b → one_if b (one_if (meets_on n x) 1) ≡ one_if b (one_if (meets_on m x) 1)
              pick true e = ap (λ k. one_if (meets_on k x) 1) (same_object_is n m e)
              pick false e = refl

          lively : (l : Bool) → list_any (is_own (thread_of x)) (lane_of slot_of (Side true m) os) ≡ true
              → list_any (is_of (cond l (Above (thread_of x)) (Others (thread_of x)))) (lane_of slot_of (Side l m) os)
              ≡ true
              → may_meet l (length (lane_of slot_of (Side true m) os)) (length (lane_of slot_of (Side false m) os)) ≡ true
          lively true own other_ = two_there (thread_of x) (lane_of slot_of (Side true m) os) own other_
          lively false own other_ =
              let heads = any_some (is_own (thread_of x)) (lane_of slot_of (Side true m) os) own in
              let others_ = any_some (is_others (thread_of x)) (lane_of slot_of (Side false m) os) other_ in
              rw (heads, others_) refl

          at : (b : Bool) → meets_on m x ≡ b → one_if (list_any (same_object m) keys) (one_if b 1) ≡ one_if b 1
          at true e =
              let own = there m (ap (is_slot (Side true m)) is ∙ same_object_self m) in
              rw (both m, lively (one_lane m.kind) own e) refl
          at false e = pick (list_any (same_object m) keys)
            where
              pick : (b : Bool) → one_if b 0 ≡ 0
              pick true = refl
              pick false = refl

  counted : (ys xs : List PlainOffer) → os ≡ ys ++ xs
      → total (λ n. length (met_among (partner_threads n.kind) (lane_of slot_of (met_lane n) os) (lane_of slot_of (Side true n) xs))) keys ≡ length (filter (has_partner os) xs)
  counted ys [] is = total_zero (λ n. 0) keys (λ n. refl)
  counted ys (x ∷ xs) is =
      let here = one_leaf x (λ n e. subst (λ zs. list_any (is_own (thread_of x)) (lane_of slot_of (Side true n) zs) ≡ true) (sym is) (stands ys xs x (Side true n) e)) in
      let rest = counted (ys ++ x ∷ []) xs (is ∙ sym (append_assoc ys (x ∷ []) xs)) in
      total_add (λ n. length (met_among (partner_threads n.kind) (lane_of slot_of (met_lane n) os)
      (lane_of slot_of (Side true n) (x ∷ xs))))
      (λ n. one_if (is_slot (Side true n) (slot_of x.base)) (one_if (meets_on n x) 1))
      (λ n. length (met_among (partner_threads n.kind) (lane_of slot_of (met_lane n) os)
      (lane_of slot_of (Side true n) xs))) keys
      (λ n. step n (is_slot (Side true n) (slot_of x.base)) (meets_on n x) refl (filter (λ o. is_slot (Side true n) (slot_of o.base)) xs))
      ∙ rw (here, rest) (at (has_partner os x) (filter (has_partner os) xs))
    where
      step : (n : PairedId) (b w : Bool) → meets_on n x ≡ w → (ys : List PlainOffer)
          → length (met_among (partner_threads n.kind) (lane_of slot_of (met_lane n) os)
          (map place (cond b (x ∷ ys) ys)))
          ≡ one_if b (one_if w 1) + length
          (met_among (partner_threads n.kind) (lane_of slot_of (met_lane n) os) (map place ys))
      step n true true e ys = rw e (omega arith)
      step n true false e ys = rw e (omega arith)
      step n false w e ys = omega arith

      at : (b : Bool) (ys : List PlainOffer) → one_if b 1 + length ys ≡ length (cond b (x ∷ ys) ys)
      at true ys = omega arith
      at false ys = omega arith

  -- the leaves that have a partner are those of all objects
  pub all_met : total (λ n. length (heads_on os n)) keys ≡ length (filter (has_partner os) os)
  all_met = counted [] os refl

  at_most : (s : Option Slot) → total (λ n. one_if (is_slot (Side true n) s) 1 + one_if (is_slot (Side false n) s) 1) keys ≤ 1
  at_most None = let none = total_zero (λ n. 0 + 0) keys (λ n. omega arith) in omega (arith, none)
  at_most (Some (Waiters l)) = let none = total_zero (λ n. 0 + 0) keys (λ n. omega arith) in omega (arith, none)
  at_most (Some (Side true m)) =
      let same = total_same (λ n. one_if (same_object n m) 1 + 0) (λ n. one_if (same_object n m) 1) keys (λ n. omega arith) in
      let one = once m 1 keys apart_ in
      let few = most (list_any (same_object m) keys) in
      omega (arith, same, one, few)
    where
      most : (b : Bool) → one_if b 1 ≤ 1
      most true = omega arith
      most false = omega arith
  at_most (Some (Side false m)) =
      let same = total_same (λ n. 0 + one_if (same_object n m) 1) (λ n. one_if (same_object n m) 1) keys (λ n. omega arith) in
      let one = once m 1 keys apart_ in
      let few = most (list_any (same_object m) keys) in
      omega (arith, same, one, few)
    where
      most : (b : Bool) → one_if b 1 ≤ 1
      most true = omega arith
      most false = omega arith

  -- no offer stands on two objects
  pub sizes : (xs : List PlainOffer) → total (size_on xs) keys ≤ length xs
  sizes [] = let none = total_zero (λ n. 0 + 0) keys (λ n. omega arith) in omega (arith, none)
  sizes (x ∷ xs) =
      let sum = total_add (size_on (x ∷ xs)) (λ n. one_if (is_slot (Side true n) (slot_of x.base)) 1 + one_if (is_slot (Side false n) (slot_of x.base)) 1) (size_on xs) keys each in
      let one = at_most (slot_of x.base) in
      let rest = sizes xs in
      omega (arith, sum, one, rest)
    where
      step : (k : Slot) (b : Bool) (ys : List PlainOffer) → length (map place (cond b (x ∷ ys) ys)) ≡ one_if b 1 + length (map place ys)
      step k true ys = omega arith
      step k false ys = omega arith

      each : (n : PairedId) → size_on (x ∷ xs) n ≡ (one_if (is_slot (Side true n) (slot_of x.base)) 1 + one_if (is_slot (Side false n) (slot_of x.base)) 1) + size_on xs n
      each n =
          let a = step (Side true n) (is_slot (Side true n) (slot_of x.base)) (filter (λ o. is_slot (Side true n) (slot_of o.base)) xs) in
          let b = step (Side false n) (is_slot (Side false n) (slot_of x.base)) (filter (λ o. is_slot (Side false n) (slot_of o.base)) xs) in
          omega (arith, a, b)
