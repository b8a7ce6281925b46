-- An offer among those of other threads, by its place in the whole lane.
use Rattle.std.proofs.Common.{◌≡◌, ℕ, zero, suc, ◌+◌, ◌<◌, ◌≤◌, Bool, true, false, not, nat_eq, nat_lt, cond, List, [], ◌∷◌, length, get_or, refl, ap, sym, ◌∙◌, arith}
use Rattle.std.proofs.lemmas.Bool.Decides.{nat_tests}
use Rattle.cml_value.specs.declared.number.Tid.{Tid}
use Rattle.cml_scan.specs.declared.meet.Place.{Place}
use Rattle.cml_scan.specs.Order.{before, before_numbers, Every, Ascends}
use Rattle.cml_objects.specs.Lanes.{is_others, others}
use Rattle.cml_index.proofs.Parted.{filter_fewer}
use Rattle.cml_index.proofs.Lit.{at_place}

not_below : (p q : Place) (t : ℕ) → before p q ≡ true → nat_lt p.tid.0 t ≡ false → nat_lt q.tid.0 t ≡ false
not_below p q t e f = at p.tid.0 p.leaf q.tid.0 q.leaf e f
  where
    at : (a m c n : ℕ) → before_numbers a m c n ≡ true → nat_lt a t ≡ false → nat_lt c t ≡ false
    at a m c n e f = grind (arith, nat_tests)

all_above : (tid : Tid) (p : Place) (ps : List Place) → Every (before p) ps → nat_lt p.tid.0 tid.0 ≡ false → not (nat_eq tid.0 p.tid.0) ≡ true → others tid ps ≡ ps
all_above tid p [] up low off = refl
all_above tid p (q ∷ ps) up low off = rw (at p.tid.0 p.leaf q.tid.0 q.leaf tid.0 up.0 low off) (ap (λ qs. q ∷ qs) (all_above tid p ps up.1 low off))
  where
    at : (a m c n t : ℕ) → before_numbers a m c n ≡ true → nat_lt a t ≡ false → not (nat_eq t a) ≡ true → not (nat_eq t c) ≡ true
    at a m c n t e f g = grind (arith, nat_tests)

-- within a list the default does not matter
pub any_default : (ps : List Place) (k : ℕ) (d e : Place) → k < length ps → get_or ps k d ≡ get_or ps k e
any_default [] k d e within = absurd (omega (arith, within))
any_default (p ∷ ps) zero d e within = refl
any_default (p ∷ ps) (suc k) d e within = any_default ps k d e (omega (arith, within))

-- one that stands below the thread is at its own place
pub other_before : (tid : Tid) (ps : List Place) (j : ℕ) (d : Place) → Ascends before ps → j < length ps → nat_lt (get_or ps j d).tid.0 tid.0 ≡ true → get_or (others tid ps) j d ≡ get_or ps j d
other_before tid [] j d up within low = absurd (omega (arith, within))
other_before tid (p ∷ ps) zero d up within low = rw (at p.tid.0 tid.0 low) refl
  where
    at : (a t : ℕ) → nat_lt a t ≡ true → not (nat_eq t a) ≡ true
    at a t e = grind (arith, nat_tests)
other_before tid (p ∷ ps) (suc j) d up within low =
    let inside : j < length ps = omega (arith, within) in
    let q = get_or ps j d in
    rw (at p.tid.0 p.leaf q.tid.0 q.leaf tid.0 (at_place (before p) ps j d inside up.0) low) (other_before tid ps j d up.1 inside low)
  where
    at : (a m c n t : ℕ) → before_numbers a m c n ≡ true → nat_lt c t ≡ true → not (nat_eq t a) ≡ true
    at a m c n t e f = grind (arith, nat_tests)

-- any other one is after those of the thread
pub other_behind : (tid : Tid) (ps : List Place) (own j : ℕ) (d : Place) → Ascends before ps
    → own + length (others tid ps) ≡ length ps → j < length (others tid ps) → nat_lt (get_or ps j d).tid.0 tid.0 ≡ false
    → get_or (others tid ps) j d ≡ get_or ps (j + own) d
other_behind tid [] own j d up many within high = absurd (omega (arith, within))
other_behind tid (p ∷ ps) own j d up many within high = at (is_others tid p) refl (λ own j. other_behind tid ps own j d up.1) many within
  where
    few : length (others tid ps) ≤ length ps
    few = filter_fewer (is_others tid) ps

    mine : (a t : ℕ) → not (nat_eq t a) ≡ false → nat_lt a t ≡ false
    mine a t e = grind (arith, nat_tests)

    its : ((own j : ℕ) → own + length (others tid ps) ≡ length ps → j < length (others tid ps)
        → nat_lt (get_or ps j d).tid.0 tid.0 ≡ false → get_or (others tid ps) j d ≡ get_or ps (j + own) d) → (own : ℕ)
        → is_others tid p ≡ false → own + length (others tid ps) ≡ length (p ∷ ps) → j < length (others tid ps)
        → get_or (others tid ps) j d ≡ get_or (p ∷ ps) (j + own) d
    its k zero e many within = absurd (omega (arith, many, few))
    its k (suc own) e many within =
        let inside : j < length ps = omega (arith, within, few) in
        let on : nat_lt (get_or ps j d).tid.0 tid.0 ≡ false = not_below p (get_or ps j d) tid.0 (at_place (before p) ps j d inside up.0) (mine p.tid.0 tid.0 e) in
        let rest = k own j (omega (arith, many)) within on in
        let step : j + suc own ≡ suc (j + own) = omega arith in
        rest ∙ ap (λ n. get_or (p ∷ ps) n d) (sym step)

    away : ((own j : ℕ) → own + length (others tid ps) ≡ length ps → j < length (others tid ps)
        → nat_lt (get_or ps j d).tid.0 tid.0 ≡ false → get_or (others tid ps) j d ≡ get_or ps (j + own) d) → (j : ℕ)
        → is_others tid p ≡ true → nat_lt (get_or (p ∷ ps) j d).tid.0 tid.0 ≡ false → own + suc (length (others tid ps))
        ≡ length (p ∷ ps) → j < suc (length (others tid ps)) → get_or (p ∷ others tid ps) j d
        ≡ get_or (p ∷ ps) (j + own) d
    away k zero e high many within =
        let all : length (others tid ps) ≡ length ps = ap length (all_above tid p ps up.0 high e) in
        let none : 0 + own ≡ 0 = omega (arith, many, all) in
        ap (λ n. get_or (p ∷ ps) n d) (sym none)
    away k (suc j) e high many within = let step : suc j + own ≡ suc (j + own) = omega arith in k own j (omega (arith, many)) (omega (arith, within)) high ∙ ap (λ n. get_or (p ∷ ps) n d) (sym step)

    at : (b : Bool) → is_others tid p ≡ b
        → ((own j : ℕ) → own + length (others tid ps) ≡ length ps → j < length (others tid ps)
        → nat_lt (get_or ps j d).tid.0 tid.0 ≡ false → get_or (others tid ps) j d ≡ get_or ps (j + own) d)
        → own + length (cond b (p ∷ others tid ps) (others tid ps)) ≡ length (p ∷ ps)
        → j < length (cond b (p ∷ others tid ps) (others tid ps))
        → get_or (cond b (p ∷ others tid ps) (others tid ps)) j d ≡ get_or (p ∷ ps) (j + own) d
    at true e k many within = away k j e high many within
    at false e k many within = its k own e many within
