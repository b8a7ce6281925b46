-- Of two leaves, which is the head: the sender, and of two swaps the one in the lower thread.
use Rattle.std.proofs.Common.{◌≡◌, ◌≢◌, ℕ, Bool, true, false, not, ◌&&◌, ◌||◌, nat_eq, nat_lt, refl, arith}
use Rattle.std.proofs.lemmas.Bool.Decides.{nat_tests}
use Rattle.cml_value.specs.Value.{PlainValue, PlainBase, send, recv, swap}
use Rattle.cml_scan.specs.Scan.{PlainOffer, receives_on, swaps_on, meets, do_meet, can_meet}
use Rattle.cml_scan.specs.Order.{can_take, can_swap}

and_true : (a b : Bool) → a && (b && true) ≡ a && b
and_true a true = refl
and_true a false = refl

and_false : (a b : Bool) → a && false ≡ b && false
and_false true true = refl
and_false true false = refl
and_false false true = refl
and_false false false = refl

-- a send heads the receives of its channel in other threads
pub do_meet-send : (t u c : ℕ) (v : PlainValue) (b : PlainBase) → do_meet t (send c v) u b ≡ not (nat_eq t u) && receives_on c b
do_meet-send t u c v (recv d) = and_true (not (nat_eq t u)) (nat_eq c d)
do_meet-send t u c v _ = refl

-- a swap heads the swaps of its swap channel in the threads above its own
pub do_meet-swap : (t u s : ℕ) (v : PlainValue) (b : PlainBase) → do_meet t (swap s v) u b ≡ nat_lt t u && swaps_on s b
do_meet-swap t u s v (swap r x) = both t u s r
  where
    both : (t u s r : ℕ) → not (nat_eq t u) && (nat_eq s r && (not (nat_eq r s) || nat_lt t u)) ≡ nat_lt t u && nat_eq s r
    both t u s r = grind (arith, nat_tests)
do_meet-swap t u s v _ = and_false (not (nat_eq t u)) (nat_lt t u)

pub can_meet-send : (h : PlainOffer) (c : ℕ) (v : PlainValue) → h.base ≡ send c v → (o : PlainOffer) → can_meet h o ≡ can_take h.thread c o
can_meet-send h c v is o = rw is (do_meet-send h.thread o.thread c v o.base)

pub can_meet-swap : (h : PlainOffer) (s : ℕ) (v : PlainValue) → h.base ≡ swap s v → (o : PlainOffer) → can_meet h o ≡ can_swap h.thread s o
can_meet-swap h s v is o = rw is (do_meet-swap h.thread o.thread s v o.base)

-- of two leaves of two threads that are the sides of one communication, exactly one is the head
pub one-head : (a b : PlainOffer) → meets a.base b.base ≡ true → a.thread ≢ b.thread → can_meet b a ≡ not (can_meet a b)
one-head a b e apart = at a.thread b.thread (meets a.base b.base) (meets b.base a.base) e apart
  where
    at : (t u : ℕ) (m n : Bool) → m ≡ true → t ≢ u → not (nat_eq u t) && (n && (not m || nat_lt u t)) ≡ not (not (nat_eq t u) && (m && (not n || nat_lt t u)))
    at t u true true e apart = grind (arith, nat_tests)
    at t u true false e apart = grind (arith, nat_tests)
    at t u false n e apart = cc

-- and where each could be, it is the one in the lower thread
pub lower-head : (a b : PlainOffer) → meets a.base b.base ≡ true → meets b.base a.base ≡ true → can_meet a b ≡ nat_lt a.thread b.thread
lower-head a b e f = rw (e, f) (at a.thread b.thread)
  where
    at : (t u : ℕ) → not (nat_eq t u) && (true && (not true || nat_lt t u)) ≡ nat_lt t u
    at t u = grind (arith, nat_tests)
