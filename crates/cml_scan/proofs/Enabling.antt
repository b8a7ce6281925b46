-- The rows of the scan of a world are those that are enabled in it.
use Rattle.std.proofs.Common.{◌≡◌, ◌≢◌, ℕ, zero, suc, ◌+◌, ◌<◌, Bool, true, false, not, ◌&&◌, nat_eq, nat_lt, List, [], ◌∷◌, ◌++◌, Option, Some, None, inl, inr, refl, ap, sym, ◌∙◌, arith}
use Rattle.std.specs.Prelude.{slice_get, ◌↔◌, ◌⊎◌, Contains}
use Rattle.std.proofs.Math.Logic.{⊎_elim}
use Rattle.std.proofs.lemmas.Bool.Decides.{nat_tests}
use Rattle.std.proofs.lemmas.List.Folds.{Any-from_list_any, list_any-from_Any}
use Rattle.cml_value.specs.Value.{PlainValue, PlainBase, send, recv, swap}
use Rattle.cml_value.specs.Group.{bases}
use Rattle.cml_value.specs.declared.number.Tid.{Tid}
use Rattle.cml_scan.specs.World.{PlainThread, running, pending_on, ended, PlainWorld, pending_from, pending}
use Rattle.cml_scan.specs.Light.{lit}
use Rattle.cml_scan.specs.Scan.{PlainOffer, leaves_from, offers_of, receives_on, swaps_on, do_meet, scan, same_row, has_row}
use Rattle.cml_scan.specs.Order.{base_at, is_lit_there, meet_at, row_at}
use Rattle.cml_scan.specs.Enabled.{leaf_of, IsEnabled}
use Rattle.cml_scan.specs.declared.meet.Meet.{Meet}
use Rattle.cml_scan.specs.declared.meet.Meet.TheVariants.{Single, Pair}
use Rattle.cml_scan.specs.declared.meet.Place.{Place}
use Rattle.cml_scan.proofs.Ordered.{over_all, pending_past, offers_ascend, pending_sorted}
use Rattle.cml_scan.proofs.Found.{not_later}
use Rattle.cml_scan.proofs.Members.{has_found}
use Rattle.cml_scan.proofs.Meeting.{do_meet-send, do_meet-swap}

-- the leaves of other threads, and a thread's own
pub other_leaves : (p : Place) (u l : ℕ) (bs : List PlainBase) (rest : List PlainOffer) → nat_eq p.tid.0 u ≡ false → base_at p (leaves_from u l bs ++ rest) ≡ base_at p rest
other_leaves p u l [] rest e = refl
other_leaves p u l (b ∷ bs) rest e = rw e (other_leaves p u (l + 1) bs rest e)

pub own_leaf : (p : Place) (k i : ℕ) (bs : List PlainBase) (rest : List PlainOffer) → p.leaf ≡ k + i → base_at p rest ≡ None → base_at p (leaves_from p.tid.0 k bs ++ rest) ≡ slice_get bs i
own_leaf p k i [] rest e none = none
own_leaf p k zero (b ∷ bs) rest e none = rw (here p.tid.0 p.leaf k e) refl
  where
    here : (t l k : ℕ) → l ≡ k + 0 → nat_eq t t && nat_eq l k ≡ true
    here t l k e = grind (arith, nat_tests)
own_leaf p k (suc i) (b ∷ bs) rest e none = rw (past p.tid.0 p.leaf k i e) (own_leaf p (k + 1) i bs rest (omega arith) none)
  where
    past : (t l k i : ℕ) → l ≡ k + suc i → nat_eq t t && nat_eq l k ≡ false
    past t l k i e = grind (arith, nat_tests)

none_after : (p : Place) (ts : List PlainThread) → base_at p (offers_of (pending_from (p.tid.0 + 1) ts)) ≡ None
none_after p ts = not_later p (offers_of (pending_from (p.tid.0 + 1) ts)) (over_all p.tid.0 p.leaf (pending_from (p.tid.0 + 1) ts) (pending_past p.tid.0 (p.tid.0 + 1) ts (omega arith)))

leaf_found : (p : Place) (n i : ℕ) (ts : List PlainThread) → p.tid.0 ≡ n + i → base_at p (offers_of (pending_from n ts)) ≡ leaf_of (slice_get ts i) p.leaf
leaf_found p n i [] e = refl
leaf_found p n zero (t ∷ ts) e = let same : p.tid.0 ≡ n = omega arith in at t same
  where
    at : (t : PlainThread) → p.tid.0 ≡ n → base_at p (offers_of (pending_from n (t ∷ ts))) ≡ leaf_of (Some t) p.leaf
    at running same = rw (← same) (none_after p ts)
    at (pending_on g) same = rw (← same) (own_leaf p 0 p.leaf (bases g) (offers_of (pending_from (p.tid.0 + 1) ts)) (omega arith) (none_after p ts))
    at ended same = rw (← same) (none_after p ts)
leaf_found p n (suc i) (t ∷ ts) e = at t (leaf_found p (n + 1) i ts (omega arith))
  where
    apart : (a n i : ℕ) → a ≡ n + suc i → nat_eq a n ≡ false
    apart a n i e = grind (arith, nat_tests)

    at : (t : PlainThread) → base_at p (offers_of (pending_from (n + 1) ts)) ≡ leaf_of (slice_get ts i) p.leaf → base_at p (offers_of (pending_from n (t ∷ ts))) ≡ leaf_of (slice_get ts i) p.leaf
    at running k = k
    at (pending_on g) k = other_leaves p n 0 (bases g) (offers_of (pending_from (n + 1) ts)) (apart p.tid.0 n i e) ∙ k
    at ended k = k

-- the base event at a place of a world
pub base_at-world : (w : PlainWorld) (p : Place) → base_at p (offers_of (pending w)) ≡ leaf_of (slice_get w.threads p.tid.0) p.leaf
base_at-world w p = leaf_found p 0 p.tid.0 w.threads (omega arith)

lit_is : (f : PlainBase → Bool) (ob : Option PlainBase) → (is_lit_there f ob ≡ true) ↔ ((b : PlainBase) × (ob ≡ Some b) × (f b ≡ true))
lit_is f None = (λ e. cc, λ h. cc)
lit_is f (Some b) = (λ e. (b, refl, e), λ h. let same : b ≡ h.0 = cc in rw same h.2)

pub both_true : (a b : Bool) → a && b ≡ true → (a ≡ true) × (b ≡ true)
both_true true true e = (refl, refl)
both_true true false e = cc
both_true false b e = cc

same_number : (a b : ℕ) → nat_eq a b ≡ true → a ≡ b
same_number a b e = grind (arith, nat_tests)

receives_is : (c : ℕ) (b : PlainBase) → receives_on c b ≡ true → b ≡ recv c
receives_is c (recv d) e = ap recv (sym (same_number c d e))
receives_is c _ e = cc

swaps_is : (s : ℕ) (b : PlainBase) → swaps_on s b ≡ true → (v : PlainValue) × (b ≡ swap s v)
swaps_is s (swap r v) e = (v, ap (λ n. swap n v) (sym (same_number s r e)))
swaps_is s _ e = cc

differ : (a b : ℕ) → not (nat_eq a b) ≡ true → a ≢ b
differ a b e = λ same. let h : nat_eq a b ≡ true = eq a b same in let k : not (nat_eq a b) ≡ false = ap not h in cc
  where
    eq : (a b : ℕ) → a ≡ b → nat_eq a b ≡ true
    eq a b e = grind (arith, nat_tests)

unlike : (a b : ℕ) → a ≢ b → nat_eq a b ≡ false
unlike a b h = grind (arith, nat_tests)

alike : (a : ℕ) → nat_eq a a ≡ true
alike a = grind (arith, nat_tests)

is_less : (a b : ℕ) → nat_lt a b ≡ true → a < b
is_less a b e = grind (arith, nat_tests)

less_is : (a b : ℕ) → a < b → nat_lt a b ≡ true
less_is a b h = grind (arith, nat_tests)

-- what stands at two places is a send and a receive on one channel, of two threads
abbrev AreSent : ℕ → ℕ → Option PlainBase → Option PlainBase → Type 0
AreSent a b oc od = (c : ℕ) × (v : PlainValue) × (oc ≡ Some (send c v)) × (od ≡ Some (recv c)) × (a ≢ b)

-- what stands there are swaps on one swap channel, the first in the lower thread
abbrev AreSwapped : ℕ → ℕ → Option PlainBase → Option PlainBase → Type 0
AreSwapped a b oc od = (s : ℕ) × (v u : PlainValue) × (oc ≡ Some (swap s v)) × (od ≡ Some (swap s u)) × (a < b)

meet_found : (a b : ℕ) (x y : PlainBase) → do_meet a x b y ≡ true → AreSent a b (Some x) (Some y) ⊎ AreSwapped a b (Some x) (Some y)
meet_found a b (send c v) y e =
    let two = both_true (not (nat_eq a b)) (receives_on c y) (sym (do_meet-send a b c v y) ∙ e) in
    inl (c, v, refl, ap Some (receives_is c y two.1), differ a b two.0)
meet_found a b (swap s v) y e =
    let two = both_true (nat_lt a b) (swaps_on s y) (sym (do_meet-swap a b s v y) ∙ e) in
    let other = swaps_is s y two.1 in
    inr (s, v, other.0, refl, ap Some other.1, is_less a b two.0)
meet_found a b _ y e = let two = both_true (not (nat_eq a b)) false e in cc

sent_meet : (a b : ℕ) (x y : PlainBase) → AreSent a b (Some x) (Some y) → do_meet a x b y ≡ true
sent_meet a b x y h =
    let e : x ≡ send h.0 h.1 = let t = h.2 in cc in
    let f : y ≡ recv h.0 = let t = h.3 in cc in
    rw (e, f) (do_meet-send a b h.0 h.1 (recv h.0) ∙ rw (unlike a b h.4, alike h.0) refl)

swapped_meet : (a b : ℕ) (x y : PlainBase) → AreSwapped a b (Some x) (Some y) → do_meet a x b y ≡ true
swapped_meet a b x y h =
    let e : x ≡ swap h.0 h.1 = let t = h.3 in cc in
    let f : y ≡ swap h.0 h.2 = let t = h.4 in cc in
    rw (e, f) (do_meet-swap a b h.0 h.1 (swap h.0 h.2) ∙ rw (less_is a b h.5, alike h.0) refl)

meet_is : (a b : ℕ) (oc od : Option PlainBase) → (meet_at a b oc od ≡ true) ↔ (AreSent a b oc od ⊎ AreSwapped a b oc od)
meet_is a b None od = (λ e. cc, λ h. ⊎_elim (λ s. cc) (λ s. cc) h)
meet_is a b (Some x) None = (λ e. cc, λ h. ⊎_elim (λ s. cc) (λ s. cc) h)
meet_is a b (Some x) (Some y) = (meet_found a b x y, λ h. ⊎_elim (sent_meet a b x y) (swapped_meet a b x y) h)

row_is : (w : PlainWorld) (row : Meet) → (row_at (lit w) (λ p. leaf_of (slice_get w.threads p.tid.0) p.leaf) row ≡ true) ↔ IsEnabled w row
row_is w (Single t l) = lit_is (lit w) (leaf_of (slice_get w.threads t.0) l)
row_is w (Pair h k o m) = meet_is h.0 o.0 (leaf_of (slice_get w.threads h.0) k) (leaf_of (slice_get w.threads o.0) m)

row_at-agree : (f : PlainBase → Bool) (a b : Place → Option PlainBase) (row : Meet) → ((p : Place) → a p ≡ b p) → row_at f a row ≡ row_at f b row
row_at-agree f a b (Single t l) same = ap (is_lit_there f) (same _)
row_at-agree f a b (Pair h k o m) same =
    ap (λ x. meet_at h.0 o.0 x (a (record { tid = o; leaf = m }))) (same (record { tid = h; leaf = k }))
    ∙ ap (λ x. meet_at h.0 o.0 (b (record { tid = h; leaf = k })) x) (same (record { tid = o; leaf = m }))

pub has_row-scan : (w : PlainWorld) (row : Meet) → has_row (scan w) row ≡ row_at (lit w) (λ p. leaf_of (slice_get w.threads p.tid.0) p.leaf) row
has_row-scan w row =
    has_found (lit w) row (offers_of (pending w)) (offers_ascend (pending w) (pending_sorted w))
    ∙ row_at-agree (lit w) (λ p. base_at p (offers_of (pending w)))
    (λ p. leaf_of (slice_get w.threads p.tid.0) p.leaf) row (base_at-world w)

-- the same row, as a test and as a fact

pub same_row_is : (r s : Meet) → same_row r s ≡ true → r ≡ s
same_row_is (Single t k) (Single u l) e = two t.0 k u.0 l e
  where
    both : (a b c d : ℕ) → nat_eq a c && nat_eq b d ≡ true → (a ≡ c) × (b ≡ d)
    both a b c d e = grind (arith, nat_tests)

    two : (a b c d : ℕ) → nat_eq a c && nat_eq b d ≡ true → Single (record { 0 = a }) b ≡ Single (record { 0 = c }) d
    two a b c d e = let h = both a b c d e in cc
same_row_is (Single t k) (Pair u l v n) e = cc
same_row_is (Pair t k o j) (Single u l) e = cc
same_row_is (Pair t k o j) (Pair u l v n) e = four t.0 k o.0 j u.0 l v.0 n e
  where
    all : (a b c d e f g h : ℕ) → (nat_eq a e && nat_eq b f) && (nat_eq c g && nat_eq d h) ≡ true → (a ≡ e) × (b ≡ f) × (c ≡ g) × (d ≡ h)
    all a b c d e f g h is = grind (arith, nat_tests)

    four : (a b c d e f g h : ℕ) → (nat_eq a e && nat_eq b f) && (nat_eq c g && nat_eq d h) ≡ true → Pair (record { 0 = a }) b (record { 0 = c }) d ≡ Pair (record { 0 = e }) f (record { 0 = g }) h
    four a b c d e f g h is = let s = all a b c d e f g h is in cc

pub same_row_self : (r : Meet) → same_row r r ≡ true
same_row_self (Single t k) = two t.0 k
  where
    two : (a b : ℕ) → nat_eq a a && nat_eq b b ≡ true
    two a b = grind (arith, nat_tests)
same_row_self (Pair t k o j) = four t.0 k o.0 j
  where
    four : (a b c d : ℕ) → (nat_eq a a && nat_eq b b) && (nat_eq c c && nat_eq d d) ≡ true
    four a b c d = grind (arith, nat_tests)

pub Contains-has_row : (rows : List Meet) (row : Meet) → has_row rows row ≡ true → Contains rows row
Contains-has_row rows row e =
    let any = Any-from_list_any (same_row row) rows e in let same : row ≡ any.1 = same_row_is row any.1 any.4 in rw same (any.0, any.2, any.3)

pub has_row-Contains : (rows : List Meet) (row : Meet) → Contains rows row → has_row rows row ≡ true
has_row-Contains rows row h = list_any-from_Any (same_row row) rows (h.0, row, h.1, h.2, same_row_self row)

-- a row is in the scan exactly where its leaves are enabled
pub scan-members : (w : PlainWorld) (row : Meet) → Contains (scan w) row ↔ IsEnabled w row
scan-members w row =
    (λ h. (row_is w row).0 (sym (has_row-scan w row) ∙ has_row-Contains (scan w) row h), λ e. Contains-has_row (scan w) row (has_row-scan w row ∙ (row_is w row).1 e))

-- two leaves stand in one row at most
pub scan-one_way : (w : PlainWorld) (h o : Tid) (k m : ℕ) → Contains (scan w) (Pair h k o m) → Contains (scan w) (Pair o m h k) → ⊥
scan-one_way w h o k m one two =
    one_way h.0 o.0 (leaf_of (slice_get w.threads h.0) k) (leaf_of (slice_get w.threads o.0) m) ((scan-members w (Pair h k o m)).0 one) ((scan-members w (Pair o m h k)).0 two)
  where
    one_way : (a b : ℕ) (oc od : Option PlainBase) → AreSent a b oc od ⊎ AreSwapped a b oc od → AreSent b a od oc ⊎ AreSwapped b a od oc → ⊥
    one_way a b oc od h k = ⊎_elim (λ s. ⊎_elim (λ r. sent_sent s r) (λ r. sent_swapped s r) k) (λ s. ⊎_elim (λ r. sent_swapped r s) (λ r. swapped s r) k) h
      where
        sent_sent : {a b : ℕ} {oc od : Option PlainBase} → AreSent a b oc od → AreSent b a od oc → ⊥
        sent_sent s r = let e = s.2 in let f = r.3 in cc

        sent_swapped : {a b : ℕ} {oc od : Option PlainBase} → AreSent a b oc od → AreSwapped b a od oc → ⊥
        sent_swapped s r = let e = s.2 in let f = r.4 in cc

        swapped : {a b : ℕ} {oc od : Option PlainBase} → AreSwapped a b oc od → AreSwapped b a od oc → ⊥
        swapped s r = let e = s.5 in let f = r.5 in omega arith
