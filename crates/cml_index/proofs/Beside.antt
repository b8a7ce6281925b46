-- Which offers have one of another thread beside them in a lane.
use Rattle.std.proofs.Common.{◌≡◌, ℕ, zero, suc, ◌+◌, ◌*◌, ◌-◌, ◌<◌, ◌^◌, Bool, true, false, not, nat_eq, nat_lt, List, [], ◌∷◌, length, get_or, Option, Some, None, refl, ap, sym, subst, ◌∙◌, arith}
use Rattle.std.specs.Prelude.{slice_get}
use Rattle.std.specs.List.{filter, list_any}
use Rattle.std.proofs.lemmas.Bool.Decides.{nat_tests}
use Rattle.std.proofs.lemmas.Nat.{pow_pos, pow-add}
use Rattle.cml_value.specs.declared.number.Tid.{Tid}
use Rattle.cml_scan.specs.declared.meet.Place.{Place}
use Rattle.std.proofs.lemmas.List.Folds.{list_any_at}
use Rattle.cml_scan.specs.Order.{before, before_numbers, Ascends}
use Rattle.cml_objects.specs.declared.lane.PartnerThreads.{PartnerThreads}
use Rattle.cml_objects.specs.declared.lane.PartnerThreads.TheVariants.{Others, Above}
use Rattle.cml_objects.specs.Lanes.{is_others}
use Rattle.cml_objects.proofs.Counts.{last_above}
use Rattle.cml_index.proofs.Lit.{at_place}
use Rattle.cml_index.specs.Heads.{is_beside, met_among}

one_number : (a b : ℕ) → nat_eq a b ≡ true → a ≡ b
one_number a b e = grind (arith, nat_tests)

no_test : (a b : ℕ) → (a ≡ b → ⊥) → nat_eq a b ≡ false
no_test a b f = at (nat_eq a b) refl
  where
    at : (r : Bool) → nat_eq a b ≡ r → r ≡ false
    at true e = absurd (f (one_number a b e))
    at false e = refl

other_here : (a b : ℕ) → nat_eq a b ≡ false → not (nat_eq b a) ≡ true
other_here a b e = grind (arith, nat_tests)

-- where the last offer is of a thread below which none stands, all are
none_other : (t : Tid) (p : Place) (ps : List Place) (e : Place) → Ascends before (p ∷ ps) → nat_lt p.tid.0 t.0 ≡ false
    → (get_or (p ∷ ps) (length ps) e).tid.0 ≡ t.0 → list_any (is_others t) (p ∷ ps) ≡ false
none_other t p [] e up low last = rw (one p.tid.0 t.0 last) refl
  where
    one : (a b : ℕ) → a ≡ b → not (nat_eq b a) ≡ false
    one a b e = grind (arith, nat_tests)
none_other t p (q ∷ ps) e up low last =
    let long : length (q ∷ ps) ≡ suc (length ps) = omega arith in
    let end_ : (get_or (q ∷ ps) (length ps) e).tid.0 ≡ t.0 = ap (λ n. (get_or (p ∷ q ∷ ps) n e).tid.0) (sym long) ∙ last in
    let ahead : before p (get_or (q ∷ ps) (length ps) e) ≡ true = at_place (before p) (q ∷ ps) (length ps) e (omega (arith, long)) up.0 in
    let z = get_or (q ∷ ps) (length ps) e in
    rw (own p.tid.0 p.leaf z.tid.0 z.leaf t.0 low ahead end_) (none_other t q ps e up.1 (higher p.tid.0 p.leaf q.tid.0 q.leaf t.0 low up.0.0) end_)
  where
    own : (a m c n t : ℕ) → nat_lt a t ≡ false → before_numbers a m c n ≡ true → c ≡ t → not (nat_eq t a) ≡ false
    own a m c n t e f g = grind (arith, nat_tests)

    higher : (a m c n t : ℕ) → nat_lt a t ≡ false → before_numbers a m c n ≡ true → nat_lt c t ≡ false
    higher a m c n t e f = grind (arith, nat_tests)

-- where the first and the last offer are of one thread, those of the others have one beside them
pub alone : (ps : List Place) (d e : Place) → Ascends before ps → 0 < length ps → (get_or ps 0 d).tid.0
    ≡ (get_or ps (length ps - 1) e).tid.0 → (q : Place) → list_any (is_others q.tid) ps
    ≡ is_others (get_or ps 0 d).tid q
alone [] d e up some same q = absurd (omega (arith, some))
alone (p ∷ ps) d e up some same q = at (nat_eq p.tid.0 q.tid.0) refl
  where
    last : length (p ∷ ps) - 1 ≡ length ps
    last = omega arith

    not_low : (a b : ℕ) → nat_eq a b ≡ true → nat_lt a b ≡ false
    not_low a b e = grind (arith, nat_tests)

    at : (r : Bool) → nat_eq p.tid.0 q.tid.0 ≡ r → list_any (is_others q.tid) (p ∷ ps) ≡ not r
    at true f = none_other q.tid p ps e up (not_low p.tid.0 q.tid.0 f) (ap (λ n. (get_or (p ∷ ps) n e).tid.0) (sym last) ∙ sym same ∙ one_number p.tid.0 q.tid.0 f)
    at false f = list_any_at (is_others q.tid) (p ∷ ps) 0 d some (other_here p.tid.0 q.tid.0 f)

-- where they are of two threads, each offer has one beside it
pub several : (ps : List Place) (d e : Place) → Ascends before ps → 0 < length ps
    → ((get_or ps 0 d).tid.0 ≡ (get_or ps (length ps - 1) e).tid.0 → ⊥) → (q : Place) → list_any (is_others q.tid) ps
    ≡ true
several ps d e up some apart q = at (nat_eq (get_or ps 0 d).tid.0 q.tid.0) refl
  where
    on : (a b c : ℕ) → nat_eq a b ≡ true → nat_eq a c ≡ false → not (nat_eq b c) ≡ true
    on a b c e f = grind (arith, nat_tests)

    at : (r : Bool) → nat_eq (get_or ps 0 d).tid.0 q.tid.0 ≡ r → list_any (is_others q.tid) ps ≡ true
    at true f = list_any_at (is_others q.tid) ps (length ps - 1) e (omega (arith, some))
        (on (get_or ps 0 d).tid.0 q.tid.0 (get_or ps (length ps - 1) e).tid.0 f
        (no_test (get_or ps 0 d).tid.0 (get_or ps (length ps - 1) e).tid.0 apart))
    at false f = list_any_at (is_others q.tid) ps 0 d some (other_here (get_or ps 0 d).tid.0 q.tid.0 f)

-- the heads that have an offer of another thread among the others, where that is known
pub among_is : (rs hs : List Place) (o : Option Tid) → ((q : Place) → list_any (is_others q.tid) rs ≡ is_beside o q) → met_among Others rs hs ≡ filter (is_beside o) hs
among_is rs hs o same = ap (λ (f : Place → Bool). filter f hs) (λ i q. same q i)

pub all_stay : (hs : List Place) → filter (is_beside None) hs ≡ hs
all_stay [] = refl
all_stay (h ∷ hs) = ap (λ ps. h ∷ ps) (all_stay hs)

pub none_among : (meets : Tid → PartnerThreads) (rs hs : List Place) → length rs ≡ 0 → length (met_among meets rs hs) ≡ 0
none_among meets (r ∷ rs) hs e = absurd (omega (arith, e))
none_among meets [] [] e = refl
none_among meets [] (h ∷ hs) e = none_among meets [] hs e

-- those that have one of a thread above their own beside them are those of the threads below the last one
pub above_among : (ps hs : List Place) (e : Place) → Ascends before ps → 0 < length ps → met_among Above ps hs ≡ filter (λ q. nat_lt q.tid.0 (get_or ps (length ps - 1) e).tid.0) hs
above_among ps hs e up some = ap (λ (f : Place → Bool). filter f hs) (λ i q. sym (last_above q.tid ps e up some) i)

pub power_above : (n : ℕ) → n < 2 ^ n
power_above zero = pow_pos zero
power_above (suc n) =
    let k = power_above n in
    let p : 2 ^ (n + 1) ≡ 2 ^ n * 2 ^ 1 = pow-add 2 n 1 in
    let s : suc n ≡ n + 1 = omega arith in
    subst (λ m. m < 2 ^ m) (sym s) (omega (arith, k, p))

-- what a place of a list holds
pub got : {X : Type 0} (ns : List X) (i : ℕ) (m : X) → slice_get ns i ≡ Some m → get_or ns i m ≡ m
got [] i m e = cc
got (n ∷ ns) zero m e = cc
got (n ∷ ns) (suc i) m e = got ns i m e

pub within : {X : Type 0} (ns : List X) (i : ℕ) (m : X) → slice_get ns i ≡ Some m → i < length ns
within [] i m e = cc
within (n ∷ ns) zero m e = omega arith
within (n ∷ ns) (suc i) m e = let k = within ns i m e in omega (arith, k)
