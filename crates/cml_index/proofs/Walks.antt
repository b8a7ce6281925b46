-- One leaf after another.
use Rattle.std.proofs.Common.{◌≡◌, ℕ, zero, suc, ◌<◌, ◌≤◌, ◌+◌, Bool, true, false, not, ◌||◌, nat_eq, nat_lt, cond}
use Rattle.std.proofs.Common.{List, [], ◌∷◌, ◌++◌, map, drop, take, get_or, length, Option, refl, ap, sym, subst}
use Rattle.std.proofs.Common.{◌∙◌, arith, add-one}
use Rattle.std.specs.Bool.{beq}
use Rattle.std.specs.List.{filter, list_any}
use Rattle.std.proofs.lemmas.Bool.{and_parts}
use Rattle.std.proofs.lemmas.Bool.Decides.{nat_tests}
use Rattle.std.proofs.lemmas.List.{length-map}
use Rattle.std.proofs.lemmas.List.Folds.{list_any_more}
use Rattle.cml_value.specs.declared.number.Tid.{Tid}
use Rattle.cml_scan.specs.declared.meet.Place.{Place}
use Rattle.cml_scan.specs.Order.{before, before_numbers, Every, Ascends}
use Rattle.cml_scan.proofs.Telling.{same_light_is, same_light_self, light_eq}
use Rattle.cml_objects.specs.Lanes.{is_own, is_others, others, with_run}
use Rattle.cml_objects.specs.Pairings.{same_object}
use Rattle.cml_objects.specs.declared.pairing.PairedId.{PairedId}
use Rattle.cml_objects.proofs.Pairs.{same_object_is, same_object_self}
use Rattle.cml_index.specs.declared.slot.Slot.{Slot}
use Rattle.cml_index.specs.declared.slot.Slot.TheVariants.{Side, Waiters}
use Rattle.cml_index.specs.declared.slot.Wait.{Wait}
use Rattle.cml_index.specs.Slot.{same_slot}
use Rattle.std.specs.Prelude.{OnOk, Result, Ok, Err}
use Rattle.cml_index.specs.Stands.{joined}
use Rattle.cml_index.specs.Slots.{is_slot, slot_in, slot_leaves, has_slot}

-- one lane, as a test and as a fact

pub same_slot_is : (a b : Slot) → same_slot a b ≡ true → a ≡ b
same_slot_is (Side h n) (Side g m) e =
    let both = and_parts (beq h g) (same_object n m) e in
    let heads : h ≡ g = same_bool h g both.0 in
    let object : n ≡ m = same_object_is n m both.1 in
    λ i. Side (heads i) (object i)
  where
    same_bool : (h g : Bool) → beq h g ≡ true → h ≡ g
    same_bool true true e = refl
    same_bool false false e = refl
    same_bool _ _ e = cc
same_slot_is (Waiters l) (Waiters m) e = ap Waiters (same_light_is l m (sym (light_eq l m) ∙ e))
same_slot_is _ _ e = cc

pub same_slot_self : (a : Slot) → same_slot a a ≡ true
same_slot_self (Side true n) = same_object_self n
same_slot_self (Side false n) = same_object_self n
same_slot_self (Waiters l) = light_eq l l ∙ same_light_self l

pub same_object-turned : (a b : PairedId) → same_object a b ≡ same_object b a
same_object-turned a b = at (same_object a b) (same_object b a) refl refl
  where
    at : (s t : Bool) → same_object a b ≡ s → same_object b a ≡ t → s ≡ t
    at true t e f = let same : a ≡ b = same_object_is a b e in sym (subst (λ x. same_object b x ≡ true) (sym same) (same_object_self b)) ∙ f
    at false true e f = let same : b ≡ a = same_object_is b a f in sym e ∙ subst (λ x. same_object a x ≡ true) (sym same) (same_object_self a)
    at false false e f = refl

-- the leaves from one on are that one and the later ones
pub waits_left : (ws : List Wait) (i : ℕ) (s : Option Slot) (d : Wait) → i < length ws → s ≡ slot_in (get_or ws i d) → drop i (map slot_in ws) ≡ s ∷ drop (i + 1) (map slot_in ws)
waits_left ws i s d lt e = rw add-one (rest ws i lt e)
  where
    rest : (ws : List Wait) (i : ℕ) → i < length ws → s ≡ slot_in (get_or ws i d) → drop i (map slot_in ws) ≡ s ∷ drop (suc i) (map slot_in ws)
    rest [] i lt e = absurd (omega arith)
    rest (x ∷ ws) zero lt e = ap (λ y. y ∷ map slot_in ws) (sym e)
    rest (x ∷ ws) (suc i) lt e = rest ws i (omega arith) e

-- the test of one more leaf
pub waits_more : (p : Option Slot → Bool) (ws : List Wait) (i : ℕ) (s : Option Slot) (d : Wait) → i < length ws → s
    ≡ slot_in (get_or ws i d) → list_any p (take (i + 1) (map slot_in ws))
    ≡ (list_any p (take i (map slot_in ws)) || p s)
waits_more p ws i s d lt e =
    list_any_more p (map slot_in ws) i (slot_in d) (rw length-map lt) ∙ ap (λ x. list_any p (take i (map slot_in ws)) || p x) (at ws i lt ∙ sym e)
  where
    at : (ws : List Wait) (i : ℕ) → i < length ws → get_or (map slot_in ws) i (slot_in d) ≡ slot_in (get_or ws i d)
    at [] i lt = absurd (omega arith)
    at (x ∷ ws) zero lt = refl
    at (x ∷ ws) (suc i) lt = at ws i (omega arith)

-- all leaves have been gone through
pub waits_all : (ws : List Wait) (i : ℕ) → length ws ≤ i → take i (map slot_in ws) ≡ map slot_in ws
waits_all [] zero h = refl
waits_all [] (suc i) h = refl
waits_all (x ∷ ws) zero h = absurd (omega arith)
waits_all (x ∷ ws) (suc i) h = ap (λ ys. slot_in x ∷ ys) (waits_all ws i (omega arith))

-- what holds of one leaf holds of some
pub waits_any : (p : Option Slot → Bool) (ws : List Wait) (i : ℕ) (s : Option Slot) (d : Wait) → i < length ws → s ≡ slot_in (get_or ws i d) → p s ≡ true → list_any p (map slot_in ws) ≡ true
waits_any p [] i s d lt e is = absurd (omega arith)
waits_any p (x ∷ ws) zero s d lt e is = ap (λ b. b || list_any p (map slot_in ws)) (ap p (sym e) ∙ is)
waits_any p (x ∷ ws) (suc i) s d lt e is = ap (λ b. p (slot_in x) || b) (waits_any p ws i s d (omega arith) e is) ∙ or_true (p (slot_in x))
  where
    or_true : (b : Bool) → b || true ≡ true
    or_true true = refl
    or_true false = refl

-- a search among the leaves for one that passes: one more does not, this one does, or none does
pub any_next : (p : Option Slot → Bool) (ws : List Wait) (i : ℕ) (r : Bool) (d : Wait) → i < length ws → r
    ≡ p (slot_in (get_or ws i d)) → list_any p (take i (map slot_in ws)) ≡ false → r ≡ false
    → list_any p (take (i + 1) (map slot_in ws)) ≡ false
any_next p ws i r d lt is none off = waits_more p ws i (slot_in (get_or ws i d)) d lt refl ∙ both (list_any p (take i (map slot_in ws))) (p (slot_in (get_or ws i d))) none (sym is ∙ off)
  where
    both : (a b : Bool) → a ≡ false → b ≡ false → a || b ≡ false
    both false false e f = refl
    both true b e f = cc
    both false true e f = cc

pub any_found : (p : Option Slot → Bool) (ws : List Wait) (i : ℕ) (r : Bool) (d : Wait) → i < length ws → r ≡ p (slot_in (get_or ws i d)) → r ≡ true → true ≡ list_any p (map slot_in ws)
any_found p ws i r d lt is on = sym (waits_any p ws i (slot_in (get_or ws i d)) d lt refl (sym is ∙ on))

pub any_none : (p : Option Slot → Bool) (ws : List Wait) (i : ℕ) → length ws ≤ i → list_any p (take i (map slot_in ws)) ≡ false → false ≡ list_any p (map slot_in ws)
any_none p ws i past none = sym none ∙ ap (list_any p) (waits_all ws i past)

-- the leaves in a slot from one on are that one, if it stands there, and the later ones
pub leaves_left : (k : Slot) (ws : List Wait) (i : ℕ) (s : Option Slot) (d : Wait) → i < length ws → s ≡ slot_in (get_or ws i d)
    → slot_leaves k i (drop i (map slot_in ws)) ≡ cond (is_slot k s) (i ∷ slot_leaves k (i + 1) (drop (i + 1) (map slot_in ws))) (slot_leaves k (i + 1) (drop (i + 1) (map slot_in ws)))
leaves_left k ws i s d lt e = ap (slot_leaves k i) (waits_left ws i s d lt e)

pub leaves_left_by : (k : Slot) (ws : List Wait) (i : ℕ) (b : Bool) (d : Wait) → i < length ws → b ≡ is_slot k (slot_in (get_or ws i d))
    → slot_leaves k i (drop i (map slot_in ws)) ≡ cond b (i ∷ slot_leaves k (i + 1) (drop (i + 1) (map slot_in ws))) (slot_leaves k (i + 1) (drop (i + 1) (map slot_in ws)))
leaves_left_by k ws i b d lt e = leaves_left k ws i (slot_in (get_or ws i d)) d lt refl
    ∙ ap (λ c. cond c (i ∷ slot_leaves k (i + 1) (drop (i + 1) (map slot_in ws)))
    (slot_leaves k (i + 1) (drop (i + 1) (map slot_in ws)))) (sym e)

-- a slot in which no leaf stands has no leaves
pub no_leaves : (k : Slot) (leaf : ℕ) (ss : List (Option Slot)) → has_slot k ss ≡ false → slot_leaves k leaf ss ≡ []
no_leaves k leaf [] e = refl
no_leaves k leaf (s ∷ ss) e = at (is_slot k s) e (no_leaves k (leaf + 1) ss)
  where
    at : (b : Bool) → b || has_slot k ss ≡ false → (has_slot k ss ≡ false → slot_leaves k (leaf + 1) ss ≡ []) → cond b (leaf ∷ slot_leaves k (leaf + 1) ss) (slot_leaves k (leaf + 1) ss) ≡ []
    at true e h = cc
    at false e h = h e

-- the leaves of one group ascend
pub leaves_at-ascend : (k : Slot) (leaf : ℕ) (ss : List (Option Slot)) → Ascends nat_lt (slot_leaves k leaf ss)
leaves_at-ascend k leaf [] = tt
leaves_at-ascend k leaf (s ∷ ss) = at (is_slot k s) (leaves_at-ascend k (leaf + 1) ss)
  where
    above : (m n : ℕ) (ts : List (Option Slot)) → m < n → Every (nat_lt m) (slot_leaves k n ts)
    above m n [] h = tt
    above m n (t ∷ ts) h = pick (is_slot k t) (above m (n + 1) ts (omega arith))
      where
        lt : (a b : ℕ) → a < b → nat_lt a b ≡ true
        lt a b h = grind (arith, nat_tests)

        pick : (b : Bool) → Every (nat_lt m) (slot_leaves k (n + 1) ts) → Every (nat_lt m) (cond b (n ∷ slot_leaves k (n + 1) ts) (slot_leaves k (n + 1) ts))
        pick true r = (lt m n h, r)
        pick false r = r

    at : (b : Bool) → Ascends nat_lt (slot_leaves k (leaf + 1) ss) → Ascends nat_lt (cond b (leaf ∷ slot_leaves k (leaf + 1) ss) (slot_leaves k (leaf + 1) ss))
    at true r = (above leaf (leaf + 1) ss (omega arith), r)
    at false r = r

low_others : (tid : Tid) (ps : List Place) → Ascends before ps → Every (is_others tid) ps → filter (λ q. nat_lt q.tid.0 tid.0) ps ++ filter (λ q. nat_lt tid.0 q.tid.0) ps ≡ ps
low_others tid [] up away = refl
low_others tid (p ∷ ps) up away = at (nat_lt p.tid.0 tid.0) (nat_lt tid.0 p.tid.0) refl refl (low_others tid ps up.1 away.1)
  where
    high : (q : Place) → nat_lt p.tid.0 tid.0 ≡ false → before p q ≡ true → nat_lt q.tid.0 tid.0 ≡ false
    high q e f = numbers p.tid.0 p.leaf q.tid.0 q.leaf tid.0 e f
      where
        numbers : (a b c d t : ℕ) → nat_lt a t ≡ false → before_numbers a b c d ≡ true → nat_lt c t ≡ false
        numbers a b c d t e f = grind (arith, nat_tests)

    none : (qs : List Place) → nat_lt p.tid.0 tid.0 ≡ false → Every (before p) qs → filter (λ q. nat_lt q.tid.0 tid.0) qs ≡ []
    none [] e each = refl
    none (q ∷ qs) e each = let out : nat_lt q.tid.0 tid.0 ≡ false = high q e each.0 in rw out (none qs e each.1)

    one : (a t : ℕ) → not (nat_eq t a) ≡ true → nat_lt a t ≡ true → nat_lt t a ≡ true → ⊥
    one a t e f g = grind (arith, nat_tests)

    other : (a t : ℕ) → not (nat_eq t a) ≡ true → nat_lt a t ≡ false → nat_lt t a ≡ false → ⊥
    other a t e f g = grind (arith, nat_tests)

    at : (l h : Bool) → nat_lt p.tid.0 tid.0 ≡ l → nat_lt tid.0 p.tid.0 ≡ h → filter (λ q. nat_lt q.tid.0 tid.0) ps ++ filter (λ q. nat_lt tid.0 q.tid.0) ps ≡ ps
        → cond l (p ∷ filter (λ q. nat_lt q.tid.0 tid.0) ps) (filter (λ q. nat_lt q.tid.0 tid.0) ps)
        ++ cond h (p ∷ filter (λ q. nat_lt tid.0 q.tid.0) ps) (filter (λ q. nat_lt tid.0 q.tid.0) ps) ≡ p ∷ ps
    at true true e f h = absurd (one p.tid.0 tid.0 away.0 e f)
    at true false e f h = ap (λ qs. p ∷ qs) h
    at false true e f h =
        let low : filter (λ q. nat_lt q.tid.0 tid.0) ps ≡ [] = none ps e up.0 in
        let rest : filter (λ q. nat_lt tid.0 q.tid.0) ps ≡ ps = sym (ap (λ qs. qs ++ filter (λ q. nat_lt tid.0 q.tid.0) ps) low) ∙ h in
        rw low (ap (λ qs. p ∷ qs) rest)
    at false false e f h = absurd (other p.tid.0 tid.0 away.0 e f)

-- where no leaf comes the lane stays
pub with_none : (tid : Tid) (ps : List Place) → Ascends before ps → Every (is_others tid) ps → with_run tid [] ps ≡ ps
with_none tid ps up away = low_others tid ps up away

-- where no leaf is the thread's the lane stays
pub others_all : (tid : Tid) (ps : List Place) → length (filter (is_own tid) ps) ≡ 0 → others tid ps ≡ ps
others_all tid [] e = refl
others_all tid (p ∷ ps) e = at (is_own tid p) e (others_all tid ps)
  where
    at : (b : Bool) → length (cond b (p ∷ filter (is_own tid) ps) (filter (is_own tid) ps)) ≡ 0
        → (length (filter (is_own tid) ps) ≡ 0 → others tid ps ≡ ps) → cond (not b) (p ∷ others tid ps) (others tid ps)
        ≡ p ∷ ps
    at true e h = absurd (omega (arith, e))
    at false e h = ap (λ qs. p ∷ qs) (h e)

-- with the leaves of the thread, or without any, the lane is the one with its run
pub joined_run : (tid : Tid) (ls : List ℕ) (ps : List Place) → Ascends before ps → Every (is_others tid) ps → joined tid ls ps ≡ with_run tid ls ps
joined_run tid [] ps up away = sym (with_none tid ps up away)
joined_run tid (l ∷ ls) ps up away = refl

pub nil_left : {X : Type 0} (xs ys : List X) → xs ++ ys ≡ [] → xs ≡ []
nil_left [] ys e = refl
nil_left (x ∷ xs) ys e = cc

pub decide : {P : Type 0} (b : Bool) → (b ≡ true → P) → (b ≡ false → P) → P
decide true yes_ no_ = yes_ refl
decide false yes_ no_ = no_ refl

pub on_ok_both : {A E X Y Z : Type 0} (r : Result A E) → OnOk r X → OnOk r Y → (X → Y → Z) → OnOk r Z
on_ok_both (Ok a) x y f = f x y
on_ok_both (Err e) x y f = tt

-- what is done at the slots so far, and what is as it was
abbrev pub IsDone : {X : Type 0} → (X → X → Type 0) → (Slot → Bool) → (Slot → X) → (Slot → X) → Type 0
IsDone R done old new = ((k : Slot) → done k ≡ true → R (old k) (new k)) × ((k : Slot) → done k ≡ false → new k ≡ old k)

-- the slot of one more leaf is done, and no other slot has changed; what is done twice is done
pub one_more : {X : Type 0} (R : X → X → Type 0) → ((a b c : X) → R a b → R b c → R a c) → (old before after : Slot → X) (here_ done more : Slot → Bool) → ((k : Slot) → more k ≡ (done k || here_ k))
    → ((k : Slot) → here_ k ≡ true → R (before k) (after k)) → ((k : Slot) → here_ k ≡ false → after k ≡ before k) → IsDone R done old before → IsDone R more old after
one_more {X = X} R twice old before after here_ done more one here elsewhere so_far = (
  λ k e. yes_ k (done k) (here_ k) refl refl (sym (one k) ∙ e),
  λ k e. no_ k (done k) (here_ k) refl refl (sym (one k) ∙ e),
)
  where
    yes_ : (k : Slot) (d s : Bool) → done k ≡ d → here_ k ≡ s → d || s ≡ true → R (old k) (after k)
    yes_ k true true e f g = twice (old k) (before k) (after k) (so_far.0 k e) (here k f)
    yes_ k true false e f g = subst (R (old k)) (sym (elsewhere k f)) (so_far.0 k e)
    yes_ k false true e f g = subst (λ x. R x (after k)) (so_far.1 k e) (here k f)
    yes_ k false false e f g = cc

    no_ : (k : Slot) (d s : Bool) → done k ≡ d → here_ k ≡ s → d || s ≡ false → after k ≡ old k
    no_ k false false e f g = elsewhere k f ∙ so_far.1 k e
    no_ k true s e f g = cc
    no_ k false true e f g = cc
