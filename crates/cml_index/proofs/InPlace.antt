-- A set of numbers by their places.
use Rattle.std.proofs.Common.{◌≡◌, ◌≢◌, ℕ, ◌+◌, ◌<◌, ◌≤◌, Bool, true, false, nat_eq, nat_lt, List, length, take, get_or, set, refl, ap, sym, ◌∙◌, arith, length-set, get_or-set_other, get_or-set_same}
use Rattle.std.specs.List.{list_any, IsDistinct}
use Rattle.std.proofs.lemmas.Bool.Decides.{nat_tests}
use Rattle.std.proofs.lemmas.List.Folds.{list_any_at, list_any_none}
use Rattle.std.proofs.lemmas.Grind.{common_steps}
use Rattle.std.proofs.lemmas.Map.Keys.{IsDistinct-from_apart}
use Rattle.cml_index.specs.Numbers.{ArePlaced}

alike : (a : ℕ) → nat_eq a a ≡ true
alike a = grind (arith, nat_tests)

other_number : (a b : ℕ) → a ≢ b → nat_eq a b ≡ false
other_number a b e = grind (arith, nat_tests)

lt_at : (a b : ℕ) → nat_lt a b ≡ true → a < b
lt_at a b e = grind (arith, nat_tests)

ge_at : (a b : ℕ) → nat_lt a b ≡ false → b ≤ a
ge_at a b e = grind (arith, nat_tests)

length_take : (xs : List ℕ) (c : ℕ) → c ≤ length xs → length (take c xs) ≡ c
length_take xs c few = grind (arith, common_steps)

get_take : (xs : List ℕ) (c i d : ℕ) → i < c → get_or (take c xs) i d ≡ get_or xs i d
get_take xs c i d lt = grind (arith, common_steps)

pub get_default : (xs : List ℕ) (i d e : ℕ) → i < length xs → get_or xs i d ≡ get_or xs i e
get_default xs i d e lt = grind (arith, common_steps)

-- a number that has a place is one of the first, where its place says so
pub in_by_place : (order places : List ℕ) (c n : ℕ) → ArePlaced order places → c ≤ length order → n < length order → list_any (λ m. nat_eq n m) (take c order) ≡ nat_lt (get_or places n 0) c
in_by_place order places c n p few low = at (nat_lt (get_or places n 0) c) refl
  where
    clash : (n m i : ℕ) → n ≡ m → c ≤ get_or places n 0 → i < c → get_or places m 0 ≡ i → ⊥
    clash n m i same high below back = let e : get_or places n 0 ≡ get_or places m 0 = ap (λ k. get_or places k 0) same in omega (arith, e, high, below, back)

    at : (b : Bool) → nat_lt (get_or places n 0) c ≡ b → list_any (λ m. nat_eq n m) (take c order) ≡ b
    at true e =
        let i = get_or places n 0 in
        let below : i < c = lt_at (get_or places n 0) c e in
        let long : length (take c order) ≡ c = length_take order c few in
        let is : get_or (take c order) i 0 ≡ n = get_take order c i 0 below ∙ (p.there n low).1 in
        list_any_at (λ m. nat_eq n m) (take c order) i 0 (omega arith) (rw is (alike n))
    at false e =
        list_any_none (λ m. nat_eq n m) (take c order) (λ i d within. off i d within)
      where
        off : (i d : ℕ) → i < length (take c order) → nat_eq n (get_or (take c order) i d) ≡ false
        off i d within =
            let high : c ≤ get_or places n 0 = ge_at (get_or places n 0) c e in
            let long : length (take c order) ≡ c = length_take order c few in
            let below : i < c = omega (arith, within, long) in
            let is : get_or (take c order) i d ≡ get_or order i 0 = get_take order c i d below ∙ get_default order i d 0 (omega (arith, below, few)) in
            let back : get_or places (get_or order i 0) 0 ≡ i = (p.back i (omega (arith, below, few))).1 in
            rw is (other_number n (get_or order i 0) (λ same. clash n (get_or order i 0) i same high below back))

-- one that has none is not
pub not_in : (order places : List ℕ) (c n : ℕ) → ArePlaced order places → c ≤ length order → length order ≤ n → list_any (λ m. nat_eq n m) (take c order) ≡ false
not_in order places c n p few high = list_any_none (λ m. nat_eq n m) (take c order) off
  where
    off : (i d : ℕ) → i < length (take c order) → nat_eq n (get_or (take c order) i d) ≡ false
    off i d within =
        let long : length (take c order) ≡ c = length_take order c few in
        let below : i < c = omega (arith, within, long) in
        let is : get_or (take c order) i d ≡ get_or order i 0 = get_take order c i d below ∙ get_default order i d 0 (omega (arith, below, few)) in
        let back : get_or order i 0 < length order = (p.back i (omega (arith, below, few))).0 in
        rw is (other_number n (get_or order i 0) (λ same. omega (arith, same, back, high)))

-- where each number stands after two places were exchanged
pub record AreExchanged (places new : List ℕ) (a b m : ℕ) : Type 0 where
  pub first : get_or places m 0 ≡ a → get_or new m 0 ≡ b
  pub second : get_or places m 0 ≡ b → get_or new m 0 ≡ a
  pub other : get_or places m 0 ≢ a → get_or places m 0 ≢ b → get_or new m 0 ≡ get_or places m 0

pub exchanged : (order places order_new new : List ℕ) (a b m : ℕ) → ArePlaced order places → ArePlaced order_new new
    → order_new ≡ set (set order a (get_or order b 0)) b (get_or order a 0) → a < length order → b < length order
    → m < length order → AreExchanged places new a b m
exchanged order places order_new new a b m p q is a_in b_in m_in = record {
  first = λ e. found b (omega (arith, b_in))
      (now b ∙ get_or-set_same (set order a (get_or order b 0)) b (get_or order a 0) 0 (rw length-set b_in)
      ∙ ap (λ i. get_or order i 0) (sym e) ∙ (p.there m m_in).1);
  second = λ e. found a (omega (arith, a_in)) (now a ∙ at_first (nat_eq a b) refl e);
  other = λ e f. found (get_or places m 0) (p.there m m_in).0
      (now (get_or places m 0) ∙ get_or-set_other (set order a (get_or order b 0)) b (get_or places m 0)
      (get_or order a 0) 0 f ∙ get_or-set_other order a (get_or places m 0) (get_or order b 0) 0 e
      ∙ (p.there m m_in).1);
}
  where
    now : (i : ℕ) → get_or order_new i 0 ≡ get_or (set (set order a (get_or order b 0)) b (get_or order a 0)) i 0
    now i = ap (λ xs. get_or xs i 0) is

    long : length order_new ≡ length order
    long = ap length is ∙ length-set (set order a (get_or order b 0)) b (get_or order a 0) ∙ length-set order a (get_or order b 0)

    found : (i : ℕ) → i < length order → get_or order_new i 0 ≡ m → get_or new m 0 ≡ i
    found i within there = let low : i < length order_new = omega (arith, within, long) in sym (ap (λ k. get_or new k 0) there) ∙ (q.back i low).1

    same_number : (a b : ℕ) → nat_eq a b ≡ true → a ≡ b
    same_number a b e = grind (arith, nat_tests)

    apart : (a b : ℕ) → nat_eq a b ≡ false → a ≢ b
    apart a b e = grind (arith, nat_tests)

    at_first : (t : Bool) → nat_eq a b ≡ t → get_or places m 0 ≡ b → get_or (set (set order a (get_or order b 0)) b (get_or order a 0)) a 0 ≡ m
    at_first true e f =
        let one : a ≡ b = same_number a b e in
        ap (λ i. get_or (set (set order a (get_or order b 0)) b (get_or order a 0)) i 0) one
        ∙ get_or-set_same (set order a (get_or order b 0)) b (get_or order a 0) 0 (rw length-set b_in) ∙ ap (λ i. get_or order i 0) (one ∙ sym f) ∙ (p.there m m_in).1
    at_first false e f =
        get_or-set_other (set order a (get_or order b 0)) b a (get_or order a 0) 0 (apart a b e)
        ∙ get_or-set_same order a (get_or order b 0) 0 a_in ∙ ap (λ i. get_or order i 0) (sym f)
        ∙ (p.there m m_in).1

same_side : (x y c d : ℕ) → (x < c → y < d) → (c ≤ x → d ≤ y) → nat_lt x c ≡ nat_lt y d
same_side x y c d low high = at (nat_lt x c) refl
  where
    is_lt : (a b : ℕ) → a < b → nat_lt a b ≡ true
    is_lt a b e = grind (arith, nat_tests)

    is_ge : (a b : ℕ) → b ≤ a → nat_lt a b ≡ false
    is_ge a b e = grind (arith, nat_tests)

    at : (b : Bool) → nat_lt x c ≡ b → b ≡ nat_lt y d
    at true e = sym (is_lt y d (low (lt_at x c e)))
    at false e = sym (is_ge y d (high (ge_at x c e)))

pub is_below : (a b : ℕ) → a < b → nat_lt a b ≡ true
is_below a b e = grind (arith, nat_tests)

pub is_above : (a b : ℕ) → b ≤ a → nat_lt a b ≡ false
is_above a b e = grind (arith, nat_tests)

same_place : (order places : List ℕ) (n m : ℕ) → ArePlaced order places → n < length order → m < length order → get_or places m 0 ≡ get_or places n 0 → m ≡ n
same_place order places n m p n_in m_in e = sym (p.there m m_in).1 ∙ ap (λ i. get_or order i 0) e ∙ (p.there n n_in).1

-- a place is one of the two that were exchanged, or another
by_place : {P : Type 0} (i a b : ℕ) → (i ≡ a → P) → (i ≡ b → P) → (i ≢ a → i ≢ b → P) → P
by_place {P = P} i a b first second other = at (nat_eq i a) (nat_eq i b) refl refl
  where
    yes_ : (a b : ℕ) → nat_eq a b ≡ true → a ≡ b
    yes_ a b e = grind (arith, nat_tests)

    no_ : (a b : ℕ) → nat_eq a b ≡ false → a ≢ b
    no_ a b e = grind (arith, nat_tests)

    at : (s t : Bool) → nat_eq i a ≡ s → nat_eq i b ≡ t → P
    at true t e f = first (yes_ i a e)
    at false true e f = second (yes_ i b f)
    at false false e f = other (no_ i a e) (no_ i b f)

-- a number is in after one was put in
pub put_number : (order places order_new new : List ℕ) (c n m : ℕ) → ArePlaced order places → ArePlaced order_new new
    → order_new ≡ set (set order (get_or places n 0) (get_or order c 0)) c (get_or order (get_or places n 0) 0)
    → n < length order → c ≤ get_or places n 0
    → (m ≡ n → list_any (λ k. nat_eq m k) (take (c + 1) order_new) ≡ true) × (m ≢ n → list_any (λ k. nat_eq m k) (take (c + 1) order_new) ≡ list_any (λ k. nat_eq m k) (take c order))
put_number order places order_new new c n m p q is n_in high = (here, at (nat_lt m (length order)) refl)
  where
    c_in : c < length order
    c_in = let within : get_or places n 0 < length order = (p.there n n_in).0 in omega (arith, within, high)

    long : length order_new ≡ length order
    long = ap length is ∙ length-set (set order (get_or places n 0) (get_or order c 0)) c (get_or order (get_or places n 0) 0) ∙ length-set order (get_or places n 0) (get_or order c 0)

    moved : m < length order → AreExchanged places new (get_or places n 0) c m
    moved m_in = exchanged order places order_new new (get_or places n 0) c m p q is (p.there n n_in).0 c_in m_in

    here : m ≡ n → list_any (λ k. nat_eq m k) (take (c + 1) order_new) ≡ true
    here e =
        let m_in : m < length order = omega (arith, e, n_in) in
        let m_new : m < length order_new = omega (arith, m_in, long) in
        let few : c + 1 ≤ length order_new = omega (arith, c_in, long) in
        let at_c : get_or new m 0 ≡ c = (moved m_in).first (ap (λ k. get_or places k 0) e) in
        in_by_place order_new new (c + 1) m q few m_new ∙ is_below (get_or new m 0) (c + 1) (omega (arith, at_c))

    at : (b : Bool) → nat_lt m (length order) ≡ b → m ≢ n → list_any (λ k. nat_eq m k) (take (c + 1) order_new) ≡ list_any (λ k. nat_eq m k) (take c order)
    at true e apart =
        let m_in : m < length order = lt_at m (length order) e in
        let m_new : m < length order_new = omega (arith, m_in, long) in
        let few : c + 1 ≤ length order_new = omega (arith, c_in, long) in
        let few_old : c ≤ length order = omega (arith, c_in) in
        let x = moved m_in in
        let sides : nat_lt (get_or new m 0) (c + 1) ≡ nat_lt (get_or places m 0) c = by_place (get_or places m 0) (get_or places n 0) c
        (λ f. absurd (apart (same_place order places n m p n_in m_in f)))
        (λ f. let to : get_or new m 0 ≡ get_or places n 0 = x.second f in
        let off : get_or places n 0 ≢ c = λ g. apart (same_place order places n m p n_in m_in (f ∙ sym g)) in
        same_side (get_or new m 0) (get_or places m 0) (c + 1) c (λ l. omega (arith, to, off, high, l)) (λ l. omega (arith, f)))
        (λ f g. let to : get_or new m 0 ≡ get_or places m 0 = x.other f g in
        same_side (get_or new m 0) (get_or places m 0) (c + 1) c (λ l. omega (arith, to, g, l)) (λ l. omega (arith, to, l))) in
        in_by_place order_new new (c + 1) m q few m_new ∙ sides ∙ sym (in_by_place order places c m p few_old m_in)
    at false e apart =
        let out : length order ≤ m = ge_at m (length order) e in
        not_in order_new new (c + 1) m q (omega (arith, c_in, long)) (omega (arith, out, long)) ∙ sym (not_in order places c m p (omega (arith, c_in)) out)

-- a number is in after one was taken out
pub cut_number : (order places order_new new : List ℕ) (c n m : ℕ) → ArePlaced order places → ArePlaced order_new new
    → order_new ≡ set (set order (get_or places n 0) (get_or order c 0)) c (get_or order (get_or places n 0) 0)
    → n < length order → get_or places n 0 ≤ c → c < length order
    → (m ≡ n → list_any (λ k. nat_eq m k) (take c order_new) ≡ false) × (m ≢ n → list_any (λ k. nat_eq m k) (take c order_new) ≡ list_any (λ k. nat_eq m k) (take (c + 1) order))
cut_number order places order_new new c n m p q is n_in low c_in = (here, at (nat_lt m (length order)) refl)
  where
    long : length order_new ≡ length order
    long = ap length is ∙ length-set (set order (get_or places n 0) (get_or order c 0)) c (get_or order (get_or places n 0) 0) ∙ length-set order (get_or places n 0) (get_or order c 0)

    moved : m < length order → AreExchanged places new (get_or places n 0) c m
    moved m_in = exchanged order places order_new new (get_or places n 0) c m p q is (p.there n n_in).0 c_in m_in

    here : m ≡ n → list_any (λ k. nat_eq m k) (take c order_new) ≡ false
    here e =
        let m_in : m < length order = omega (arith, e, n_in) in
        let m_new : m < length order_new = omega (arith, m_in, long) in
        let few : c ≤ length order_new = omega (arith, c_in, long) in
        let at_c : get_or new m 0 ≡ c = (moved m_in).first (ap (λ k. get_or places k 0) e) in
        in_by_place order_new new c m q few m_new ∙ is_above (get_or new m 0) c (omega (arith, at_c))

    at : (b : Bool) → nat_lt m (length order) ≡ b → m ≢ n → list_any (λ k. nat_eq m k) (take c order_new) ≡ list_any (λ k. nat_eq m k) (take (c + 1) order)
    at true e apart =
        let m_in : m < length order = lt_at m (length order) e in
        let m_new : m < length order_new = omega (arith, m_in, long) in
        let few : c ≤ length order_new = omega (arith, c_in, long) in
        let few_old : c + 1 ≤ length order = omega (arith, c_in) in
        let x = moved m_in in
        let sides : nat_lt (get_or new m 0) c ≡ nat_lt (get_or places m 0) (c + 1) = by_place (get_or places m 0) (get_or places n 0) c
        (λ f. absurd (apart (same_place order places n m p n_in m_in f)))
        (λ f. let to : get_or new m 0 ≡ get_or places n 0 = x.second f in
        let off : get_or places n 0 ≢ c = λ g. apart (same_place order places n m p n_in m_in (f ∙ sym g)) in
        same_side (get_or new m 0) (get_or places m 0) c (c + 1) (λ l. omega (arith, f)) (λ l. omega (arith, to, off, low, l)))
        (λ f g. let to : get_or new m 0 ≡ get_or places m 0 = x.other f g in
        same_side (get_or new m 0) (get_or places m 0) c (c + 1) (λ l. omega (arith, to, l)) (λ l. omega (arith, to, g, l))) in
        in_by_place order_new new c m q few m_new ∙ sides ∙ sym (in_by_place order places (c + 1) m p few_old m_in)
    at false e apart =
        let out : length order ≤ m = ge_at m (length order) e in
        not_in order_new new c m q (omega (arith, c_in, long)) (omega (arith, out, long)) ∙ sym (not_in order places (c + 1) m p (omega (arith, c_in)) out)

-- no number is twice among those
pub once_each : (order places : List ℕ) (c : ℕ) → ArePlaced order places → c ≤ length order → IsDistinct (λ n m. nat_eq n m) (take c order)
once_each order places c p few = IsDistinct-from_apart (λ n m. nat_eq n m) (take c order) off
  where
    long : length (take c order) ≡ c
    long = length_take order c few

    is : (i d : ℕ) → i < c → get_or (take c order) i d ≡ get_or order i 0
    is i d below = get_take order c i d below ∙ get_default order i d 0 (omega (arith, below, few))

    off : (i j : ℕ) (d : ℕ) → i < j → j < length (take c order) → nat_eq (get_or (take c order) i d) (get_or (take c order) j d) ≡ false
    off i j d lt within =
        let j_in : j < c = omega (arith, within, long) in
        let i_in : i < c = omega (arith, lt, j_in) in
        let a : get_or places (get_or order i 0) 0 ≡ i = (p.back i (omega (arith, i_in, few))).1 in
        let b : get_or places (get_or order j 0) 0 ≡ j = (p.back j (omega (arith, j_in, few))).1 in
        rw (is i d i_in, is j d j_in) (other_number (get_or order i 0) (get_or order j 0) (λ e.
        let f : get_or places (get_or order i 0) 0 ≡ get_or places (get_or order j 0) 0 = ap (λ k. get_or places k 0) e in
        omega (arith, a, b, f, lt)))

pub moved_is : (order new : List ℕ) (x p c : ℕ) → new ≡ set (set order x (get_or order c 0)) c (get_or order x 0) → x ≡ p → new ≡ set (set order p (get_or order c 0)) c (get_or order p 0)
moved_is order new x p c is e = is ∙ ap (λ i. set (set order i (get_or order c 0)) c (get_or order i 0)) e
