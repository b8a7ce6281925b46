-- What the number of offers below a bound says of where they stand.
use Rattle.std.proofs.Common.{◌≡◌, ◌≢◌, ℕ, zero, suc, ◌*◌, ◌+◌, ◌-◌, ◌<◌, ◌≤◌, ◌^◌, Bool, true, false, not, ◌&&◌}
use Rattle.std.proofs.Common.{◌||◌, nat_eq, nat_lt, nat_le, cond, List, [], ◌∷◌, ◌++◌, take, drop, length, get_or}
use Rattle.std.proofs.Common.{refl, ap, sym, ◌∙◌, arith}
use Rattle.std.specs.List.{filter, list_any}
use Rattle.std.proofs.lemmas.Bool.Decides.{nat_tests}
use Rattle.std.proofs.lemmas.List.{length-append, get_or_append_left, get_or-append_right, get_or-take, get_or-drop, nil_from_length}
use Rattle.std.proofs.lemmas.List.Folds.{list_any_at}
use Rattle.std.proofs.lemmas.List.Filters.{length-filter_both}
use Rattle.cml_value.specs.declared.number.Tid.{Tid}
use Rattle.cml_scan.specs.declared.meet.Place.{Place}
use Rattle.cml_scan.specs.Order.{before, before_numbers, Every, Ascends}
use Rattle.cml_scan.proofs.Ordered.{Every-append, Every-filter, Every-passes}
use Rattle.cml_objects.specs.declared.lane.Bound.{Bound}
use Rattle.cml_objects.specs.declared.lane.Bound.TheVariants.{Below, UpTo}
use Rattle.cml_objects.specs.declared.lane.PartnerThreads.TheVariants.{Above}
use Rattle.cml_objects.specs.Lanes.{under, is_own, is_others, others, is_of, those, run, with_run}

-- how many offers stand below the bound
abbrev pub count_under : Bound → List Place → ℕ
count_under bound ps = length (filter (under bound) ps)

-- what comes before an offer that is below a bound is below it too
pub under_earlier : (bound : Bound) (p q : Place) → before p q ≡ true → under bound q ≡ true → under bound p ≡ true
under_earlier (Below t) p q e f = at p.tid.0 p.leaf q.tid.0 q.leaf t.0 e f
  where
    at : (a b c d m : ℕ) → nat_lt a c || (nat_eq a c && nat_lt b d) ≡ true → nat_lt c m ≡ true → nat_lt a m ≡ true
    at a b c d m e f = grind (arith, nat_tests)
under_earlier (UpTo t) p q e f = at p.tid.0 p.leaf q.tid.0 q.leaf t.0 e f
  where
    at : (a b c d m : ℕ) → nat_lt a c || (nat_eq a c && nat_lt b d) ≡ true → nat_le c m ≡ true → nat_le a m ≡ true
    at a b c d m e f = grind (arith, nat_tests)

-- no offer after one that is not below the bound is below it
pub none_under : (bound : Bound) (p : Place) (ps : List Place) → Every (before p) ps → under bound p ≡ false → filter (under bound) ps ≡ []
none_under bound p [] later out = refl
none_under bound p (q ∷ ps) later out = at (under bound q) refl (none_under bound p ps later.1 out)
  where
    at : (b : Bool) → under bound q ≡ b → filter (under bound) ps ≡ [] → cond b (q ∷ filter (under bound) ps) (filter (under bound) ps) ≡ []
    at true e none = let up : under bound p ≡ true = under_earlier bound p q later.0 e in cc
    at false e none = none

-- an offer is below the bound exactly if its index is below the count
pub record IsCounted (bound : Bound) (ps : List Place) (k : ℕ) (p : Place) : Type 0 where
  pub below : under bound p ≡ true → k < count_under bound ps
  pub above : under bound p ≡ false → count_under bound ps ≤ k

pub counted : (bound : Bound) (ps : List Place) (k : ℕ) (d : Place) → Ascends before ps → k < length ps → IsCounted bound ps k (get_or ps k d)
counted bound [] k d up within = absurd (omega arith)
counted bound (p ∷ ps) zero d up within = at (under bound p) refl
  where
    at : (b : Bool) → under bound p ≡ b → IsCounted bound (p ∷ ps) zero p
    at true e = record { below = λ _. rw e (omega arith); above = λ out. cc }
    at false e = record { below = λ in_. cc; above = λ _. rw (e, none_under bound p ps up.0 e) (omega arith) }
counted bound (p ∷ ps) (suc k) d up within = at (under bound p) refl (counted bound ps k d up.1 (omega arith))
  where
    at : (b : Bool) → under bound p ≡ b → IsCounted bound ps k (get_or ps k d) → IsCounted bound (p ∷ ps) (suc k) (get_or ps k d)
    at true e rest = record {
      below = λ in_. let h : k < count_under bound ps = rest.below in_ in rw e (omega arith);
      above = λ out. let h : count_under bound ps ≤ k = rest.above out in rw e (omega arith);
    }
    at false e rest =
        let none : filter (under bound) ps ≡ [] = none_under bound p ps up.0 e in
        let zero_count : count_under bound ps ≡ 0 = ap length none in
        record { below = λ in_. let h : k < count_under bound ps = rest.below in_ in absurd (omega arith); above = λ out. rw (e, none) (omega arith) }

-- as many more looks are allowed as the gap has binary digits
pub halved : (gap less now later most : ℕ) → 0 < gap → 2 * less ≤ gap → later ≤ now + 1 → (left : ℕ) × (gap < 2 ^ left) × (now + left ≤ most) → (left : ℕ) × (less < 2 ^ left) × (later + left ≤ most)
halved gap less now later most some half more (zero, small, within) = absurd (omega arith)
halved gap less now later most some half more (suc left, small, within) = (left, omega arith, omega arith)

all_over : (bound : Bound) (p : Place) (ps : List Place) → Every (before p) ps → under bound p ≡ false → filter (λ q. not (under bound q)) ps ≡ ps
all_over bound p [] later out = refl
all_over bound p (q ∷ ps) later out = at (under bound q) refl (all_over bound p ps later.1 out)
  where
    at : (b : Bool) → under bound q ≡ b → filter (λ q. not (under bound q)) ps ≡ ps → cond (not b) (q ∷ filter (λ q. not (under bound q)) ps) (filter (λ q. not (under bound q)) ps) ≡ q ∷ ps
    at true e same = let up : under bound p ≡ true = under_earlier bound p q later.0 e in cc
    at false e same = ap (λ qs. q ∷ qs) same

-- the offers below the bound stand first
pub record IsSplit (bound : Bound) (ps : List Place) : Type 0 where
  pub front : take (count_under bound ps) ps ≡ filter (under bound) ps
  pub back : drop (count_under bound ps) ps ≡ filter (λ q. not (under bound q)) ps

pub split : (bound : Bound) (ps : List Place) → Ascends before ps → IsSplit bound ps
split bound [] up = record { front = refl; back = refl }
split bound (p ∷ ps) up = at (under bound p) refl (split bound ps up.1)
  where
    at : (b : Bool) → under bound p ≡ b → IsSplit bound ps → IsSplit bound (p ∷ ps)
    at true e rest = record { front = rw e (ap (λ qs. p ∷ qs) rest.front); back = rw e rest.back }
    at false e rest = record { front = rw (e, none_under bound p ps up.0 e) refl; back = rw (e, none_under bound p ps up.0 e) (ap (λ qs. p ∷ qs) (sym (all_over bound p ps up.0 e))) }

-- a test that holds where another does, at each offer of these
pub agree_at : {X : Type 0} (p q : X → Bool) (ps : List X) → ((x : X) → p x ≡ true → q x ≡ true) → Every p ps → Every q ps
agree_at p q [] h each = tt
agree_at p q (x ∷ xs) h each = (h x each.0, agree_at p q xs h each.1)

filter_same : {X : Type 0} (p q : X → Bool) (t : X → Bool) (xs : List X) → ((x : X) → t x ≡ true → p x ≡ q x) → Every t xs → filter p xs ≡ filter q xs
filter_same p q t [] h each = refl
filter_same p q t (x ∷ xs) h each = rw (h x each.0) (ap (λ ys. cond (q x) (x ∷ ys) ys) (filter_same p q t xs h each.1))

-- an offer of another thread that is not of one below is of one above
above_is : (tid : Tid) (q : Place) → is_others tid q ≡ true → not (nat_lt q.tid.0 tid.0) ≡ nat_lt tid.0 q.tid.0
above_is tid q e = at q.tid.0 tid.0 e
  where
    at : (a t : ℕ) → not (nat_eq t a) ≡ true → not (nat_lt a t) ≡ nat_lt t a
    at a t e = grind (arith, nat_tests)

-- a run that is put in after the offers of lower threads stands where it belongs
pub inserted : (tid : Tid) (leaves : List ℕ) (ps : List Place) → Ascends before ps → Every (is_others tid) ps
    → take (count_under (Below tid) ps) ps ++ (run tid leaves ++ drop (count_under (Below tid) ps) ps) ≡ with_run tid leaves ps
inserted tid leaves ps up away =
    let s = split (Below tid) ps up in
    let back : filter (λ q. not (nat_lt q.tid.0 tid.0)) ps
    ≡ filter (λ q. nat_lt tid.0 q.tid.0) ps = filter_same (λ q. not (nat_lt q.tid.0 tid.0))
    (λ q. nat_lt tid.0 q.tid.0) (is_others tid) ps (above_is tid) away in
    rw (s.front, s.back, back) refl

pub Ascends-filter : (f : Place → Bool) (ps : List Place) → Ascends before ps → Ascends before (filter f ps)
Ascends-filter f [] up = tt
Ascends-filter f (p ∷ ps) up = at (f p) (Ascends-filter f ps up.1)
  where
    at : (b : Bool) → Ascends before (filter f ps) → Ascends before (cond b (p ∷ filter f ps) (filter f ps))
    at true k = (Every-filter (before p) f ps up.0, k)
    at false k = k

-- in two lists that ascend, of which the first stands on one side of a thread and the second does not
Ascends-join : (t u : Place → Bool) (fs bs : List Place) → ((p q : Place) → t p ≡ true → u q ≡ true → before p q ≡ true)
    → Ascends before fs → Ascends before bs → Every t fs → Every u bs → Ascends before (fs ++ bs)
Ascends-join t u [] bs h up rest low high = rest
Ascends-join t u (a ∷ fs) bs h up rest low high =
    (Every-append (before a) fs bs up.0 (agree_at u (before a) bs (λ q e. h a q low.0 e) high), Ascends-join t u fs bs h up.1 rest low.1 high)

later_leaves : (tid : Tid) (leaf : ℕ) (leaves : List ℕ) → Every (nat_lt leaf) leaves → Every (before (record { tid = tid; leaf = leaf })) (run tid leaves)
later_leaves tid leaf [] each = tt
later_leaves tid leaf (l ∷ ls) each = (at tid.0 leaf l each.0, later_leaves tid leaf ls each.1)
  where
    at : (t a b : ℕ) → nat_lt a b ≡ true → before_numbers t a t b ≡ true
    at t a b e = grind (arith, nat_tests)

Ascends-run : (tid : Tid) (leaves : List ℕ) → Ascends nat_lt leaves → Ascends before (run tid leaves)
Ascends-run tid [] up = tt
Ascends-run tid (l ∷ ls) up = (later_leaves tid l ls up.0, Ascends-run tid ls up.1)

Every-run : (tid : Tid) (leaves : List ℕ) → Every (is_own tid) (run tid leaves)
Every-run tid [] = tt
Every-run tid (l ∷ ls) = (at tid.0, Every-run tid ls)
  where
    at : (t : ℕ) → nat_eq t t ≡ true
    at t = grind (arith, nat_tests)

pub Ascends-with : (tid : Tid) (leaves : List ℕ) (ps : List Place) → Ascends before ps → Ascends nat_lt leaves → Ascends before (with_run tid leaves ps)
Ascends-with tid leaves ps up ls =
    let low : Place → Bool = λ q. nat_lt q.tid.0 tid.0 in
    let high : Place → Bool = λ q. nat_lt tid.0 q.tid.0 in
    let back : Ascends before (run tid leaves ++ filter high ps) =
    Ascends-join (is_own tid) high (run tid leaves) (filter high ps)
    (λ p q e f. own_high p.tid.0 p.leaf q.tid.0 q.leaf tid.0 e f) (Ascends-run tid leaves ls)
    (Ascends-filter high ps up) (Every-run tid leaves) (Every-passes high ps) in
    Ascends-join low (λ q. not (low q)) (filter low ps) (run tid leaves ++ filter high ps)
    (λ p q e f. low_high p.tid.0 p.leaf q.tid.0 q.leaf tid.0 e f) (Ascends-filter low ps up) back
    (Every-passes low ps)
    (Every-append (λ q. not (low q)) (run tid leaves) (filter high ps) (agree_at (is_own tid) (λ q. not (low q)) (run tid leaves) (λ q e. own_not_low q.tid.0 tid.0 e) (Every-run tid leaves))
    (agree_at high (λ q. not (low q)) (filter high ps) (λ q e. high_not_low q.tid.0 tid.0 e) (Every-passes high ps)))
  where
    own_high : (a b c d t : ℕ) → nat_eq t a ≡ true → nat_lt t c ≡ true → before_numbers a b c d ≡ true
    own_high a b c d t e f = grind (arith, nat_tests)

    low_high : (a b c d t : ℕ) → nat_lt a t ≡ true → not (nat_lt c t) ≡ true → before_numbers a b c d ≡ true
    low_high a b c d t e f = grind (arith, nat_tests)

    own_not_low : (a t : ℕ) → nat_eq t a ≡ true → not (nat_lt a t) ≡ true
    own_not_low a t e = grind (arith, nat_tests)

    high_not_low : (a t : ℕ) → nat_lt t a ≡ true → not (nat_lt a t) ≡ true
    high_not_low a t e = grind (arith, nat_tests)

pub filter_fewer : {X : Type 0} (p : X → Bool) (xs : List X) → length (filter p xs) ≤ length xs
filter_fewer p [] = omega arith
filter_fewer p (x ∷ xs) = at (p x) (filter_fewer p xs)
  where
    at : (b : Bool) → length (filter p xs) ≤ length xs → length (cond b (x ∷ filter p xs) (filter p xs)) ≤ suc (length xs)
    at true h = omega arith
    at false h = omega arith

-- the offers of other threads are those before the thread's own and those after them

low_high : (tid : Tid) (p : Place) → under (Below tid) p ≡ true → under (UpTo tid) p ≡ true
low_high tid p e = at p.tid.0 tid.0 e
  where
    at : (a t : ℕ) → nat_lt a t ≡ true → nat_le a t ≡ true
    at a t e = grind (arith, nat_tests)

low_other : (tid : Tid) (p : Place) → under (Below tid) p ≡ true → is_others tid p ≡ true
low_other tid p e = at p.tid.0 tid.0 e
  where
    at : (a t : ℕ) → nat_lt a t ≡ true → not (nat_eq t a) ≡ true
    at a t e = grind (arith, nat_tests)

high_other : (tid : Tid) (p : Place) → under (UpTo tid) p ≡ false → is_others tid p ≡ true
high_other tid p e = at p.tid.0 tid.0 e
  where
    at : (a t : ℕ) → nat_le a t ≡ false → not (nat_eq t a) ≡ true
    at a t e = grind (arith, nat_tests)

its_own : (tid : Tid) (p : Place) → under (Below tid) p ≡ false → under (UpTo tid) p ≡ true → is_others tid p ≡ false
its_own tid p e f = at p.tid.0 tid.0 e f
  where
    at : (a t : ℕ) → nat_lt a t ≡ false → nat_le a t ≡ true → not (nat_eq t a) ≡ false
    at a t e f = grind (arith, nat_tests)

own_low : (tid : Tid) (p : Place) → p.tid.0 ≡ tid.0 → under (Below tid) p ≡ false
own_low tid p e = at p.tid.0 tid.0 e
  where
    at : (a t : ℕ) → a ≡ t → nat_lt a t ≡ false
    at a t e = grind (arith, nat_tests)

own_high : (tid : Tid) (p : Place) → p.tid.0 ≡ tid.0 → under (UpTo tid) p ≡ true
own_high tid p e = at p.tid.0 tid.0 e
  where
    at : (a t : ℕ) → a ≡ t → nat_le a t ≡ true
    at a t e = grind (arith, nat_tests)

pub record AreOthers (tid : Tid) (ps : List Place) : Type 0 where
  pub low : count_under (Below tid) ps ≤ count_under (UpTo tid) ps
  pub are : others tid ps ≡ filter (under (Below tid)) ps ++ filter (λ q. not (under (UpTo tid) q)) ps

pub others_are : (tid : Tid) (ps : List Place) → Ascends before ps → AreOthers tid ps
others_are tid [] up = record { low = omega arith; are = refl }
others_are tid (p ∷ ps) up = at (under (Below tid) p) (under (UpTo tid) p) refl refl (others_are tid ps up.1)
  where
    at : (l h : Bool) → under (Below tid) p ≡ l → under (UpTo tid) p ≡ h → AreOthers tid ps → AreOthers tid (p ∷ ps)
    at true h e f rest =
        let high : under (UpTo tid) p ≡ true = low_high tid p e in
        let other : is_others tid p ≡ true = low_other tid p e in
        let low : count_under (Below tid) ps ≤ count_under (UpTo tid) ps = rest.low in
        record { low = rw (e, high) (omega arith); are = rw (e, high, other) (ap (λ qs. p ∷ qs) rest.are) }
    at false true e f rest =
        let other : is_others tid p ≡ false = its_own tid p e f in
        let low : count_under (Below tid) ps ≤ count_under (UpTo tid) ps = rest.low in
        record { low = rw (e, f) (omega arith); are = rw (e, f, other) rest.are }
    at false false e f rest =
        let other : is_others tid p ≡ true = high_other tid p f in
        let none : filter (under (Below tid)) ps ≡ [] = none_under (Below tid) p ps up.0 e in
        let low : count_under (Below tid) ps ≤ count_under (UpTo tid) ps = rest.low in
        record { low = rw (e, f) low; are = rw (e, f, other, none) (ap (λ qs. p ∷ qs) (rest.are ∙ ap (λ qs. qs ++ filter (λ q. not (under (UpTo tid) q)) ps) none)) }

pub record AreMany (tid : Tid) (ps : List Place) : Type 0 where
  pub low : count_under (Below tid) ps ≤ count_under (UpTo tid) ps
  pub high : count_under (UpTo tid) ps ≤ length ps
  pub many : length (others tid ps) ≡ count_under (Below tid) ps + (length ps - count_under (UpTo tid) ps)
  pub own : count_under (Below tid) ps + length (filter (is_own tid) ps) ≡ count_under (UpTo tid) ps

pub others_many : (tid : Tid) (ps : List Place) → Ascends before ps → AreMany tid ps
others_many tid ps up =
    let r = others_are tid ps up in
    let low : count_under (Below tid) ps ≤ count_under (UpTo tid) ps = r.low in
    let both : count_under (UpTo tid) ps + length (filter (λ q. not (under (UpTo tid) q)) ps) ≡ length ps = length-filter_both (under (UpTo tid)) (λ q. not (under (UpTo tid) q)) (λ _. refl) ps in
    let sum : length (others tid ps) ≡ count_under (Below tid) ps + length (filter (λ q. not (under (UpTo tid) q)) ps) =
    ap length r.are ∙ length-append (filter (under (Below tid)) ps)
    (filter (λ q. not (under (UpTo tid) q)) ps) in
    let parts : length (filter (is_own tid) ps) + length (others tid ps) ≡ length ps = length-filter_both (is_own tid) (is_others tid) (λ _. refl) ps in
    record { low = low; high = omega arith; many = omega arith; own = omega arith }

-- the lane without a run is what stands before it and after it
pub removed : (tid : Tid) (ps : List Place) → Ascends before ps
    → take (count_under (Below tid) ps) ps ++ drop (count_under (Below tid) ps + length (filter (is_own tid) ps)) ps ≡ others tid ps
removed tid ps up =
    rw ((others_many tid ps up).own, (split (Below tid) ps up).front, (split (UpTo tid) ps up).back) (sym (others_are tid ps up).are)

pub other_low : (tid : Tid) (ps : List Place) (j : ℕ) (d : Place) → Ascends before ps → j < count_under (Below tid) ps → get_or (others tid ps) j d ≡ get_or ps j d
other_low tid ps j d up low =
    ap (λ qs. get_or qs j d) (others_are tid ps up).are
    ∙ get_or_append_left (filter (under (Below tid)) ps) (filter (λ q. not (under (UpTo tid) q)) ps) d j low
    ∙ ap (λ qs. get_or qs j d) (sym (split (Below tid) ps up).front)
    ∙ get_or-take (count_under (Below tid) ps) ps j d low

pub other_high : (tid : Tid) (ps : List Place) (j : ℕ) (d : Place) → Ascends before ps → count_under (Below tid) ps ≤ j
    → get_or (others tid ps) j d ≡ get_or ps (count_under (UpTo tid) ps + (j - count_under (Below tid) ps)) d
other_high tid ps j d up high =
    ap (λ qs. get_or qs j d) (others_are tid ps up).are
    ∙ get_or-append_right (filter (under (Below tid)) ps) (filter (λ q. not (under (UpTo tid) q)) ps) (count_under (Below tid) ps) j d refl high
    ∙ ap (λ qs. get_or qs (j - count_under (Below tid) ps) d) (sym (split (UpTo tid) ps up).back)
    ∙ get_or-drop (count_under (UpTo tid) ps) ps (j - count_under (Below tid) ps) d

any_none : {X : Type 0} (t : X → Bool) (xs : List X) → filter t xs ≡ [] → list_any t xs ≡ false
any_none t [] e = refl
any_none t (x ∷ xs) e = at (t x) e (any_none t xs)
  where
    at : (b : Bool) → cond b (x ∷ filter t xs) (filter t xs) ≡ [] → (filter t xs ≡ [] → list_any t xs ≡ false) → b || list_any t xs ≡ false
    at true e k = cc
    at false e k = k e

-- where the first and the last offer are the thread's, all are
no_others : (tid : Tid) (ps : List Place) (d e : Place) → Ascends before ps → 0 < length ps → (get_or ps 0 d).tid.0
    ≡ tid.0 → (get_or ps (length ps - 1) e).tid.0 ≡ tid.0 → list_any (is_others tid) ps ≡ false
no_others tid ps d e up some first last =
    let low : count_under (Below tid) ps ≤ 0 = (counted (Below tid) ps 0 d up some).above (own_low tid (get_or ps 0 d) first) in
    let high : length ps - 1 < count_under (UpTo tid) ps = (counted (UpTo tid) ps (length ps - 1) e up (omega arith)).below (own_high tid (get_or ps (length ps - 1) e) last) in
    let m = others_many tid ps up in
    let none : length (others tid ps) ≡ 0 = omega (arith, m.many, m.low, m.high) in
    any_none (is_others tid) ps (nil_from_length (others tid ps) none)

-- where the first offer is the thread's, the last one tells
pub last_tells : (tid : Tid) (ps : List Place) (d e : Place) → Ascends before ps → 0 < length ps → (get_or ps 0 d).tid.0
    ≡ tid.0 → not (nat_eq (get_or ps (length ps - 1) e).tid.0 tid.0) ≡ list_any (is_others tid) ps
last_tells tid ps d e up some first = at (nat_eq (get_or ps (length ps - 1) e).tid.0 tid.0) refl
  where
    same : (a b : ℕ) → nat_eq a b ≡ true → a ≡ b
    same a b e = grind (arith, nat_tests)

    other : (a b : ℕ) → nat_eq a b ≡ false → not (nat_eq b a) ≡ true
    other a b e = grind (arith, nat_tests)

    at : (b : Bool) → nat_eq (get_or ps (length ps - 1) e).tid.0 tid.0 ≡ b → not b ≡ list_any (is_others tid) ps
    at true yes_ = sym (no_others tid ps d e up some first (same (get_or ps (length ps - 1) e).tid.0 tid.0 yes_))
    at false no_ = sym (list_any_at (is_others tid) ps (length ps - 1) e (omega arith) (other (get_or ps (length ps - 1) e).tid.0 tid.0 no_))

-- the front of two lists that are joined
pub written : {X : Type 0} (n : ℕ) (xs ys : List X) → n ≡ length xs → take n (xs ++ ys) ≡ xs
written n [] ys e = rw e refl
written n (x ∷ xs) ys e = rw e (ap (λ zs. x ∷ zs) (written (length xs) xs ys refl))

-- the offers of the threads above one

is_above : (a t : ℕ) → nat_lt t a ≡ not (nat_le a t)
is_above a t = grind (arith, nat_tests)

-- they are those that do not stand below it or at it
above_are : (tid : Tid) (ps : List Place) → those (Above tid) ps ≡ filter (λ q. not (under (UpTo tid) q)) ps
above_are tid ps = ap (λ (f : Place → Bool). filter f ps) (λ i q. is_above q.tid.0 tid.0 i)

pub record AreAbove (tid : Tid) (ps : List Place) : Type 0 where
  pub high : count_under (UpTo tid) ps ≤ length ps
  pub many : length (those (Above tid) ps) + count_under (UpTo tid) ps ≡ length ps

pub above_many : (tid : Tid) (ps : List Place) → AreAbove tid ps
above_many tid ps =
    let both : count_under (UpTo tid) ps + length (filter (λ q. not (under (UpTo tid) q)) ps) ≡ length ps = length-filter_both (under (UpTo tid)) (λ q. not (under (UpTo tid) q)) (λ _. refl) ps in
    let same : length (those (Above tid) ps) ≡ length (filter (λ q. not (under (UpTo tid) q)) ps) = ap length (above_are tid ps) in
    record { high = omega (arith, both); many = omega (arith, both, same) }

pub above_at : (tid : Tid) (ps : List Place) (j : ℕ) (d : Place) → Ascends before ps → get_or (those (Above tid) ps) j d ≡ get_or ps (count_under (UpTo tid) ps + j) d
above_at tid ps j d up =
    ap (λ qs. get_or qs j d) (above_are tid ps)
    ∙ ap (λ qs. get_or qs j d) (sym (split (UpTo tid) ps up).back)
    ∙ get_or-drop (count_under (UpTo tid) ps) ps j d

-- whether there are any, the last offer tells
pub last_above : (tid : Tid) (ps : List Place) (e : Place) → Ascends before ps → 0 < length ps → nat_lt tid.0 (get_or ps (length ps - 1) e).tid.0 ≡ list_any (is_of (Above tid)) ps
last_above tid ps e up some = at (nat_lt tid.0 (get_or ps (length ps - 1) e).tid.0) refl
  where
    low : (a t : ℕ) → nat_lt t a ≡ false → nat_le a t ≡ true
    low a t e = grind (arith, nat_tests)

    at : (b : Bool) → nat_lt tid.0 (get_or ps (length ps - 1) e).tid.0 ≡ b → b ≡ list_any (is_of (Above tid)) ps
    at true yes_ = sym (list_any_at (is_of (Above tid)) ps (length ps - 1) e (omega arith) yes_)
    at false no_ =
        let high : length ps - 1 < count_under (UpTo tid) ps = (counted (UpTo tid) ps (length ps - 1) e up (omega arith)).below (low (get_or ps (length ps - 1) e).tid.0 tid.0 no_) in
        let m = above_many tid ps in
        let none : length (those (Above tid) ps) ≡ 0 = omega (arith, m.many, high) in
        sym (any_none (is_of (Above tid)) ps (nil_from_length (those (Above tid) ps) none))

-- the same, where this many of the offers are not of those threads
pub above_behind : (tid : Tid) (ps : List Place) (own j : ℕ) (d : Place) → Ascends before ps
    → own + length (those (Above tid) ps) ≡ length ps → get_or (those (Above tid) ps) j d ≡ get_or ps (own + j) d
above_behind tid ps own j d up rest =
    let m = above_many tid ps in
    let same : count_under (UpTo tid) ps ≡ own = omega (arith, m.many, rest) in
    above_at tid ps j d up ∙ ap (λ n. get_or ps (n + j) d) same
