-- Where the leaves that have a partner all stand on one object.
use Rattle.std.proofs.Common.{◌≡◌, ℕ, zero, suc, ◌+◌, ◌<◌, ◌≤◌, Bool, true, false, not, ◌&&◌, ◌||◌, nat_eq, nat_lt}
use Rattle.std.proofs.Common.{cond, List, [], ◌∷◌, ◌++◌, append_assoc, map, length, Some, refl, ap, sym, subst, ◌∙◌}
use Rattle.std.proofs.Common.{arith}
use Rattle.std.specs.Prelude.{slice_get}
use Rattle.std.specs.List.{filter, list_any, IsDistinct}
use Rattle.std.proofs.lemmas.Bool.Decides.{nat_tests}
use Rattle.cml_value.specs.Value.{PlainBase}
use Rattle.cml_value.specs.declared.number.Tid.{Tid}
use Rattle.cml_scan.specs.World.{PlainEntry}
use Rattle.cml_scan.specs.Scan.{PlainOffer, offers_of}
use Rattle.cml_scan.specs.Order.{place, has_partner, before, before_numbers, Ascends, Every}
use Rattle.cml_scan.specs.declared.meet.Place.{Place}
use Rattle.cml_objects.specs.declared.lane.PartnerThreads.TheVariants.{Others}
use Rattle.cml_objects.specs.Lanes.{is_own, is_others, is_of}
use Rattle.cml_objects.specs.Pairings.{same_object, partner_threads}
use Rattle.cml_objects.specs.declared.pairing.PairedId.{PairedId}
use Rattle.cml_index.specs.Slot.{met_lane}
use Rattle.cml_index.specs.declared.slot.Slot.{Slot}
use Rattle.cml_index.specs.declared.slot.Slot.TheVariants.{Side}
use Rattle.cml_index.specs.Slots.{is_slot, lane_of}
use Rattle.cml_index.specs.Posts.{slot_of}
use Rattle.cml_index.specs.Heads.{met_among, heads_on}
use Rattle.cml_index.proofs.Lit.{at_place}
use Rattle.cml_index.proofs.Parted.{filter_fewer, lane_others}
use Rattle.cml_index.proofs.Beside.{got, within, none_among}
use Rattle.cml_index.proofs.Counted as counted

-- ---- an offer of a lane and those after it

not_self : (r : Place) → before r r ≡ false
not_self r = numbers r.tid.0 r.leaf
  where
    numbers : (a b : ℕ) → before_numbers a b a b ≡ false
    numbers a b = grind (arith, nat_tests)

not_turned : (p r : Place) → before p r ≡ true → before r p ≡ false
not_turned p r e = numbers p.tid.0 p.leaf r.tid.0 r.leaf e
  where
    numbers : (a b c d : ℕ) → before_numbers a b c d ≡ true → before_numbers c d a b ≡ false
    numbers a b c d e = grind (arith, nat_tests)

-- as many stand after the one at a place as there are places after it
pub behind_at : (ps : List Place) (i : ℕ) (r : Place) → Ascends before ps → slice_get ps i ≡ Some r → length (filter (before r) ps) + i + 1 ≤ length ps
behind_at [] i r up e = cc
behind_at (p ∷ ps) zero r up e =
    let is : p ≡ r = cc in
    let few : length (filter (before r) ps) ≤ length ps = filter_fewer (before r) ps in
    let off : before r p ≡ false = subst (λ q. before r q ≡ false) (sym is) (not_self r) in
    rw off (omega (arith, few))
behind_at (p ∷ ps) (suc i) r up e =
    let later = behind_at ps i r up.1 e in
    let ahead : before p r ≡ true = subst (λ q. before p q ≡ true) (got ps i r e) (at_place (before p) ps i r (within ps i r e) up.0) in
    rw (not_turned p r ahead) (omega (arith, later))

-- of the offers after one in its lane there are no more, by those of the other lanes, than of all
pub behind_lift : (slot : PlainBase → _) (k : Slot) (r : Place) (os : List PlainOffer)
    → length (filter (λ o. before r (place o)) os) + length (lane_of slot k os) ≤ length os + length
    (filter (before r) (lane_of slot k os))
behind_lift slot k r [] = omega arith
behind_lift slot k r (o ∷ os) = at (before r (place o)) (is_slot k (slot o.base)) refl (behind_lift slot k r os)
  where
    at : (a b : Bool) → before r (place o) ≡ a → length (filter (λ x. before r (place x)) os) + length (lane_of slot k os) ≤ length os + length (filter (before r) (lane_of slot k os))
        → length (cond a (o ∷ filter (λ x. before r (place x)) os) (filter (λ x. before r (place x)) os)) + length
        (map place (cond b (o ∷ filter (λ x. is_slot k (slot x.base)) os)
        (filter (λ x. is_slot k (slot x.base)) os)))
        ≤ length (o ∷ os) + length (filter (before r) (map place (cond b (o ∷ filter (λ x. is_slot k (slot x.base)) os) (filter (λ x. is_slot k (slot x.base)) os))))
    at true true e h = rw e (omega (arith, h))
    at true false e h = omega (arith, h)
    at false true e h = rw e (omega (arith, h))
    at false false e h = omega (arith, h)

-- those of the threads below one stand first
pub low_get : (ps : List Place) (t k : ℕ) → Ascends before ps → k < length (filter (λ q. nat_lt q.tid.0 t) ps) → slice_get (filter (λ q. nat_lt q.tid.0 t) ps) k ≡ slice_get ps k
low_get [] t k up e = refl
low_get (p ∷ ps) t k up e = at (nat_lt p.tid.0 t) refl k e (λ j f. low_get ps t j up.1 f)
  where
    high : (q : Place) → nat_lt p.tid.0 t ≡ false → before p q ≡ true → nat_lt q.tid.0 t ≡ false
    high q e f = numbers p.tid.0 p.leaf q.tid.0 q.leaf t e f
      where
        numbers : (a b c d t : ℕ) → nat_lt a t ≡ false → before_numbers a b c d ≡ true → nat_lt c t ≡ false
        numbers a b c d t e f = grind (arith, nat_tests)

    none : (qs : List Place) → nat_lt p.tid.0 t ≡ false → Every (before p) qs → length (filter (λ q. nat_lt q.tid.0 t) qs) ≡ 0
    none [] e each = refl
    none (q ∷ qs) e each = let out : nat_lt q.tid.0 t ≡ false = high q e each.0 in rw out (none qs e each.1)

    at : (b : Bool) → nat_lt p.tid.0 t ≡ b → (j : ℕ) → j < length (cond b (p ∷ filter (λ q. nat_lt q.tid.0 t) ps) (filter (λ q. nat_lt q.tid.0 t) ps))
        → ((i : ℕ) → i < length (filter (λ q. nat_lt q.tid.0 t) ps) → slice_get (filter (λ q. nat_lt q.tid.0 t) ps) i ≡ slice_get ps i)
        → slice_get (cond b (p ∷ filter (λ q. nat_lt q.tid.0 t) ps) (filter (λ q. nat_lt q.tid.0 t) ps)) j ≡ slice_get (p ∷ ps) j
    at true e zero f h = refl
    at true e (suc j) f h = h j (omega (arith, f))
    at false e j f h = absurd (omega (arith, f, none ps e up.0))

-- ---- the offers of one thread

no_own : (tid : Tid) (ps : List Place) → Every (is_others tid) ps → length (filter (is_own tid) ps) ≡ 0
no_own tid [] each = refl
no_own tid (p ∷ ps) each = rw (off (is_own tid p) each.0) (no_own tid ps each.1)
  where
    off : (b : Bool) → not b ≡ true → b ≡ false
    off true e = cc
    off false e = refl

none_every : {X : Type 0} (p : X → Bool) (xs : List X) → list_any p xs ≡ false → Every (λ x. not (p x)) xs
none_every p [] e = tt
none_every p (x ∷ xs) e = at (p x) refl e (none_every p xs)
  where
    at : (b : Bool) → p x ≡ b → b || list_any p xs ≡ false → (list_any p xs ≡ false → Every (λ y. not (p y)) xs) → ((not (p x) ≡ true) × Every (λ y. not (p y)) xs)
    at true e f h = cc
    at false e f h = (ap not e, h f)

-- a thread that is not pending has no offers in a lane
pub none_own : (k : Slot) (tid : Tid) (es : List PlainEntry) → (list_any (λ e. nat_eq tid.0 e.thread) es ≡ true → ⊥) → length (filter (is_own tid) (lane_of slot_of k (offers_of es))) ≡ 0
none_own k tid es not_there = at (list_any (λ e. nat_eq tid.0 e.thread) es) refl
  where
    at : (b : Bool) → list_any (λ e. nat_eq tid.0 e.thread) es ≡ b → length (filter (is_own tid) (lane_of slot_of k (offers_of es))) ≡ 0
    at true e = absurd (not_there e)
    at false e = no_own tid (lane_of slot_of k (offers_of es)) (lane_others slot_of k tid es (none_every (λ (x : PlainEntry). nat_eq tid.0 x.thread) es e))

-- an offer is the thread's or another's
pub own_and_others : (tid : Tid) (ps : List Place) → length (filter (is_own tid) ps) + length (filter (is_others tid) ps) ≡ length ps
own_and_others tid [] = refl
own_and_others tid (p ∷ ps) = at (is_own tid p) (own_and_others tid ps)
  where
    at : (b : Bool) → length (filter (is_own tid) ps) + length (filter (is_others tid) ps) ≡ length ps
        → length (cond b (p ∷ filter (is_own tid) ps) (filter (is_own tid) ps)) + length
        (cond (not b) (p ∷ filter (is_others tid) ps) (filter (is_others tid) ps)) ≡ length (p ∷ ps)
    at true h = omega (arith, h)
    at false h = omega (arith, h)

-- ---- the heads of one object are all

both_is : (a b p : Bool) → counted.one_if a (counted.one_if b 1) + 0 ≡ counted.one_if p 1 → p ≡ a && b
both_is true true true e = refl
both_is true true false e = absurd (omega (arith, e))
both_is true false true e = absurd (omega (arith, e))
both_is true false false e = refl
both_is false b true e = absurd (omega (arith, e))
both_is false b false e = refl

pub one_object : (os : List PlainOffer) (n : PairedId) → IsDistinct same_object (n ∷ []) → counted.AreBoth (n ∷ []) os → map place (filter (has_partner os) os) ≡ heads_on os n
one_object os n apart both = go [] os refl
  where
    tid_of : PlainOffer → Tid
    tid_of x = record { 0 = x.thread }

    meets : Place → Bool
    meets q = list_any (is_of (partner_threads n.kind q.tid)) (lane_of slot_of (met_lane n) os)

    step : (x : PlainOffer) (xs : List PlainOffer) (b w p : Bool) → p ≡ b && w → meets (place x) ≡ w → (ys : List PlainOffer) → map place (filter (has_partner os) xs) ≡ filter meets (map place ys)
        → map place (cond p (x ∷ filter (has_partner os) xs) (filter (has_partner os) xs)) ≡ filter meets (map place (cond b (x ∷ ys) ys))
    step x xs true true true e f ys h = rw f (ap (λ ps. place x ∷ ps) h)
    step x xs true true false e f ys h = cc
    step x xs true false true e f ys h = cc
    step x xs true false false e f ys h = rw f h
    step x xs false w true e f ys h = cc
    step x xs false w false e f ys h = h

    go : (ys xs : List PlainOffer) → os ≡ ys ++ xs → map place (filter (has_partner os) xs) ≡ filter meets (lane_of slot_of (Side true n) xs)
    go ys [] is = refl
    go ys (x ∷ xs) is =
        let one = counted.one_leaf os (n ∷ []) apart both x
        (λ m e. subst (λ zs. list_any (is_own (tid_of x)) (lane_of slot_of (Side true m) zs) ≡ true) (sym is)
        (counted.stands ys xs x (Side true m) e)) in
        step x xs (is_slot (Side true n) (slot_of x.base)) (meets (place x)) (has_partner os x)
        (both_is (is_slot (Side true n) (slot_of x.base)) (meets (place x)) (has_partner os x) one) refl
        (filter (λ o. is_slot (Side true n) (slot_of o.base)) xs)
        (go (ys ++ x ∷ []) xs (is ∙ sym (append_assoc ys (x ∷ []) xs)))

pub one_key : (ks : List PairedId) (n : PairedId) → length ks ≡ 1 → slice_get ks 0 ≡ Some n → ks ≡ n ∷ []
one_key [] n e at = cc
one_key (k ∷ []) n e at = let same : k ≡ n = cc in ap (λ x. x ∷ []) same
one_key (k ∷ j ∷ ks) n e at = absurd (omega (arith, e))

-- where a head has one of another thread among the others, there are some
pub some_there : (rs hs : List Place) (k : ℕ) → k < length (met_among Others rs hs) → 0 < length rs
some_there [] hs k e = absurd (omega (arith, e, none_among Others [] hs refl))
some_there (r ∷ rs) hs k e = omega arith
