-- The leaves that wait for a lit object are listed each once, in order.
use Rattle.std.proofs.Common.{◌≡◌, ◌<◌, ℕ, zero, suc, List, [], ◌∷◌, length, get_or, Bool, true, false, Option, Some, None, refl, arith, inl, inr, ap, sym, ◌∙◌}
use Rattle.std.specs.Prelude.{IsTrue, if◌then◌else◌, ◌&&◌, ◌==◌, ◌⊎◌, ◌↔◌, not, Contains, AllPairs}
use Rattle.std.specs.declared.cmp.Ordering.{Ordering}
use Rattle.std.specs.declared.cmp.Ordering.TheVariants.{Less, Equal, Greater}
use Rattle.std.specs.List.{AllByRecursion}
use Rattle.std.specs.List.Sorted.{IsStrictlySortedBy}
use Rattle.std.specs.Ordering.{nat_cmp, ordering_then}
use Rattle.std.specs.Option.{option_eq}
use Rattle.std.proofs.lemmas.Bool.{false≢true}
use Rattle.std.proofs.lemmas.Bool.Decides.{nat_tests}
use Rattle.std.proofs.lemmas.Cmp.{ranked}
use Rattle.cml_value.specs.declared.number.Tid.{Tid}
use Rattle.cml_objects.specs.Registered.{WaitingLeaf, WaitsForLit, ComesBefore}

-- a leaf by its thread's number, and by its thread
abbrev pub Leaf : Type 0
Leaf = ℕ × ℕ

abbrev pub named : Leaf → Tid × ℕ
named q = (record { 0 = q.0 }, q.1)

-- as the register compares its waits
abbrev pub wait_cmp : WaitingLeaf → WaitingLeaf → Ordering
wait_cmp a b = ordering_then (ordering_then (nat_cmp a.0.0 b.0.0) (nat_cmp a.0.1 b.0.1)) (nat_cmp a.1 b.1)

abbrev pub is_last : Option Leaf → Leaf → Bool
is_last last q = option_eq (λ (x y : Leaf). (x.0 == y.0) && (x.1 == y.1)) last (Some q)

-- the leaves of lit waits, where `last` was listed before them
abbrev pub lit_leaves_after : (ℕ → Bool) → Option Leaf → List WaitingLeaf → List (Tid × ℕ)
lit_leaves_after lit last [] = []
lit_leaves_after lit last (w ∷ ws) = if not (is_last last w.0) && lit w.1 then named w.0 ∷ lit_leaves_after lit (Some w.0) ws else lit_leaves_after lit last ws

-- membership and order by recursion

abbrev pub Has : {X : Type 0} → List X → X → Type 0
Has [] x = ⊥
Has (y ∷ ys) x = (y ≡ x) ⊎ Has ys x

pub contains_has : {X : Type 0} (xs : List X) (x : X) → Has xs x → Contains xs x
contains_has [] x h = absurd h
contains_has (y ∷ ys) x (inl e) = (0, omega arith, e)
contains_has (y ∷ ys) x (inr h) = (let r = contains_has ys x h in (suc r.0, omega arith, r.2))

has_at : {X : Type 0} (xs : List X) (x : X) (k : ℕ) → k < length xs → get_or xs k x ≡ x → Has xs x
has_at [] x k l e = absurd (omega arith)
has_at (y ∷ ys) x zero l e = inl e
has_at (y ∷ ys) x (suc k) l e = inr (has_at ys x k (omega arith) e)

pub has_contains : {X : Type 0} (xs : List X) (x : X) → Contains xs x → Has xs x
has_contains xs x h = has_at xs x h.0 h.1 h.2

abbrev pub Ascending : {X : Type 0} → (X → X → Type 0) → List X → Type 0
Ascending R [] = Unit {0}
Ascending R (x ∷ xs) = AllByRecursion (R x) xs × Ascending R xs

each_at : {X : Type 0} (P : X → Type 0) (xs : List X) (k : ℕ) (d : X) → AllByRecursion P xs → k < length xs → P (get_or xs k d)
each_at P [] k d h l = absurd (omega arith)
each_at P (x ∷ xs) zero d h l = h.0
each_at P (x ∷ xs) (suc k) d h l = each_at P xs k d h.1 (omega arith)

pub pairs_ascending : {X : Type 0} (R : X → X → Type 0) (xs : List X) → Ascending R xs → AllPairs R xs
pairs_ascending R [] h i j d a b = absurd (omega arith)
pairs_ascending R (x ∷ xs) h i zero d a b = absurd (omega arith)
pairs_ascending R (x ∷ xs) h zero (suc j) d a b = each_at (R x) xs j d h.0 (omega arith)
pairs_ascending R (x ∷ xs) h (suc i) (suc j) d a b = pairs_ascending R xs h.1 i j d (omega arith) (omega arith)

each_map : {X : Type 0} (P Q : X → Type 0) (xs : List X) → ((x : X) → P x → Q x) → AllByRecursion P xs → AllByRecursion Q xs
each_map P Q [] f h = tt
each_map P Q (x ∷ xs) f h = (f x h.0, each_map P Q xs f h.1)

-- the order of leaves

same_leaf : (a b : Leaf) → a.0 ≡ b.0 → a.1 ≡ b.1 → a ≡ b
same_leaf a b e f = ap (λ (n : ℕ). let r : Leaf = (n, a.1) in r) e ∙ ap (λ (n : ℕ). let r : Leaf = (b.0, n) in r) f

less_step : (a b : Leaf) (o p q : Ordering) → o ≡ nat_cmp a.0 b.0 → p ≡ nat_cmp a.1 b.1 → ordering_then (ordering_then o p) q ≡ Less → (a ≡ b) ⊎ ComesBefore (named a) (named b)
less_step a b Less p q e f h = inr (inl (ranked a.0 b.0 Less e))
less_step a b Equal Less q e f h = inr (inr (ranked a.0 b.0 Equal e, ranked a.1 b.1 Less f))
less_step a b Equal Equal q e f h = inl (same_leaf a b (ranked a.0 b.0 Equal e) (ranked a.1 b.1 Equal f))
less_step a b Equal Greater q e f h = cc
less_step a b Greater p q e f h = cc

-- of two waits in order the leaf of the first is that of the second, or stands before it
less_leaves : (a b : WaitingLeaf) → wait_cmp a b ≡ Less → (a.0 ≡ b.0) ⊎ ComesBefore (named a.0) (named b.0)
less_leaves a b h = less_step a.0 b.0 (nat_cmp a.0.0 b.0.0) (nat_cmp a.0.1 b.0.1) (nat_cmp a.1 b.1) refl refl h

comes_trans : (p q r : Tid × ℕ) → ComesBefore p q → ComesBefore q r → ComesBefore p r
comes_trans p q r h k = grind arith

-- no wait of a leaf before `last` follows, and a leaf stands after it
abbrev NotBelow : Option Leaf → WaitingLeaf → Type 0
NotBelow None w = Unit {0}
NotBelow (Some p) w = (p ≡ w.0) ⊎ ComesBefore (named p) (named w.0)

abbrev IsBehind : Option Leaf → Tid × ℕ → Type 0
IsBehind None q = Unit {0}
IsBehind (Some p) q = ComesBefore (named p) q

last_is : (last : Option Leaf) (q : Leaf) → is_last last q ≡ true → last ≡ Some q
last_is None q h = cc
last_is (Some p) q h =
    let e : p.0 ≡ q.0 = grind (arith, nat_tests) in
    let f : p.1 ≡ q.1 = grind (arith, nat_tests) in
    ap Some (same_leaf p q e f)

last_itself : (q : Leaf) → is_last (Some q) q ≡ true
last_itself q = grind (arith, nat_tests)

behind_last : (last : Option Leaf) (w : WaitingLeaf) → is_last last w.0 ≡ false → NotBelow last w → IsBehind last (named w.0)
behind_last None w h k = tt
behind_last (Some p) w h k =
    elim k [
      | inl e ↦ (let i : is_last (Some p) w.0 ≡ true = rw e (last_itself w.0) in absurd (false≢true (sym h ∙ i)))
      | inr c ↦ c
    ]

behind_more : (last : Option Leaf) (w : WaitingLeaf) (q : Tid × ℕ) → IsBehind last (named w.0) → ComesBefore (named w.0) q → IsBehind last q
behind_more None w q h k = tt
behind_more (Some p) w q h k = comes_trans (named p) (named w.0) q h k

none_below : (ws : List WaitingLeaf) → AllByRecursion (NotBelow None) ws
none_below [] = tt
none_below (w ∷ ws) = (tt, none_below ws)

later_leaves : (w : WaitingLeaf) (ws : List WaitingLeaf) → AllByRecursion (λ y. wait_cmp w y ≡ Less) ws → AllByRecursion (NotBelow (Some w.0)) ws
later_leaves w ws h = each_map (λ y. wait_cmp w y ≡ Less) (NotBelow (Some w.0)) ws (less_leaves w) h

-- the list ascends, after `last`

behind_step : (last : Option Leaf) (w : WaitingLeaf) (new rest : List (Tid × ℕ)) (b1 b2 : Bool) → is_last last w.0 ≡ b1
    → NotBelow last w → AllByRecursion (IsBehind (Some w.0)) new → AllByRecursion (IsBehind last) rest
    → AllByRecursion (IsBehind last) (if not b1 && b2 then named w.0 ∷ new else rest)
behind_step last w new rest false true e k a b =
    let h : IsBehind last (named w.0) = behind_last last w e k in
    (h, each_map (IsBehind (Some w.0)) (IsBehind last) new (λ q. behind_more last w q h) a)
behind_step last w new rest false false e k a b = b
behind_step last w new rest true b2 e k a b = b

leaves_behind : (lit : ℕ → Bool) (last : Option Leaf) (ws : List WaitingLeaf) → IsStrictlySortedBy wait_cmp ws
    → AllByRecursion (NotBelow last) ws → AllByRecursion (IsBehind last) (lit_leaves_after lit last ws)
unfolding IsStrictlySortedBy
leaves_behind lit last [] h k = tt
leaves_behind lit last (w ∷ ws) h k =
    behind_step last w (lit_leaves_after lit (Some w.0) ws) (lit_leaves_after lit last ws) (is_last last w.0) (lit w.1) refl k.0
    (leaves_behind lit (Some w.0) ws h.1 (later_leaves w ws h.0))
    (leaves_behind lit last ws h.1 k.1)

ascend_step : (w : WaitingLeaf) (new rest : List (Tid × ℕ)) (b1 b2 : Bool)
    → AllByRecursion (ComesBefore (named w.0)) new → Ascending ComesBefore new → Ascending ComesBefore rest
    → Ascending ComesBefore (if not b1 && b2 then named w.0 ∷ new else rest)
ascend_step w new rest false true a h k = (a, h)
ascend_step w new rest false false a h k = k
ascend_step w new rest true b2 a h k = k

leaves_ascend : (lit : ℕ → Bool) (last : Option Leaf) (ws : List WaitingLeaf) → IsStrictlySortedBy wait_cmp ws → Ascending ComesBefore (lit_leaves_after lit last ws)
unfolding IsStrictlySortedBy
leaves_ascend lit last [] h = tt
leaves_ascend lit last (w ∷ ws) h =
    ascend_step w (lit_leaves_after lit (Some w.0) ws) (lit_leaves_after lit last ws) (is_last last w.0) (lit w.1)
    (leaves_behind lit (Some w.0) ws h.1 (later_leaves w ws h.0))
    (leaves_ascend lit (Some w.0) ws h.1)
    (leaves_ascend lit last ws h.1)

pub lit_leaves_in_order : (lit : ℕ → Bool) (ws : List WaitingLeaf) → IsStrictlySortedBy wait_cmp ws → AllPairs ComesBefore (lit_leaves_after lit None ws)
lit_leaves_in_order lit ws h = pairs_ascending ComesBefore (lit_leaves_after lit None ws) (leaves_ascend lit None ws h)

-- the list has exactly the leaves that wait for a lit object

abbrev WaitsAmong : (ℕ → Bool) → List WaitingLeaf → Tid × ℕ → Type 0
WaitsAmong lit [] p = ⊥
WaitsAmong lit (w ∷ ws) p = ((named w.0 ≡ p) × IsTrue (lit w.1)) ⊎ WaitsAmong lit ws p

sound_step : (P : Type 0) (p : Tid × ℕ) (w : WaitingLeaf) (new rest : List (Tid × ℕ)) (l b1 b2 : Bool) → l ≡ b2
    → (Has new p → P) → (Has rest p → P) → Has (if not b1 && b2 then named w.0 ∷ new else rest) p
    → ((named w.0 ≡ p) × IsTrue l) ⊎ P
sound_step P p w new rest l false true e f g h = elim h [ inl i ↦ inl (i, e) | inr j ↦ inr (f j) ]
sound_step P p w new rest l false false e f g h = inr (g h)
sound_step P p w new rest l true b2 e f g h = inr (g h)

leaves_wait : (lit : ℕ → Bool) (last : Option Leaf) (ws : List WaitingLeaf) (p : Tid × ℕ) → Has (lit_leaves_after lit last ws) p → WaitsAmong lit ws p
leaves_wait lit last [] p h = h
leaves_wait lit last (w ∷ ws) p h =
    sound_step (WaitsAmong lit ws p) p w (lit_leaves_after lit (Some w.0) ws) (lit_leaves_after lit last ws) (lit w.1) (is_last last w.0) (lit w.1) refl
    (leaves_wait lit (Some w.0) ws p) (leaves_wait lit last ws p) h

abbrev IsNamed : Option Leaf → Tid × ℕ → Type 0
IsNamed None p = ⊥
IsNamed (Some q) p = named q ≡ p

named_last : (last : Option Leaf) (q : Leaf) (p : Tid × ℕ) → last ≡ Some q → named q ≡ p → IsNamed last p
named_last last q p e h = rw e h

whole_step : (P : Type 0) (p : Tid × ℕ) (last : Option Leaf) (w : WaitingLeaf) (new rest : List (Tid × ℕ))
    (l b1 b2 : Bool) → l ≡ b2 → is_last last w.0 ≡ b1 → (P → Has new p ⊎ (named w.0 ≡ p))
    → (P → Has rest p ⊎ IsNamed last p) → ((named w.0 ≡ p) × IsTrue l) ⊎ P
    → Has (if not b1 && b2 then named w.0 ∷ new else rest) p ⊎ IsNamed last p
whole_step P p last w new rest l false true e d f g (inl h) = inl (inl h.0)
whole_step P p last w new rest l false true e d f g (inr h) = elim (f h) [ inl i ↦ inl (inr i) | inr i ↦ inl (inl i) ]
whole_step P p last w new rest l true b2 e d f g (inl h) = inr (named_last last w.0 p (last_is last w.0 d) h.0)
whole_step P p last w new rest l true b2 e d f g (inr h) = g h
whole_step P p last w new rest l false false e d f g (inl h) = absurd (false≢true (sym e ∙ h.1))
whole_step P p last w new rest l false false e d f g (inr h) = g h

waits_listed : (lit : ℕ → Bool) (last : Option Leaf) (ws : List WaitingLeaf) (p : Tid × ℕ) → WaitsAmong lit ws p → Has (lit_leaves_after lit last ws) p ⊎ IsNamed last p
waits_listed lit last [] p h = absurd h
waits_listed lit last (w ∷ ws) p h =
    whole_step (WaitsAmong lit ws p) p last w (lit_leaves_after lit (Some w.0) ws) (lit_leaves_after lit last ws) (lit w.1) (is_last last w.0) (lit w.1) refl refl
    (waits_listed lit (Some w.0) ws p) (waits_listed lit last ws p) h

among_waits : (lit : ℕ → Bool) (ws : List WaitingLeaf) (p : Tid × ℕ) (id : ℕ) → IsTrue (lit id) → Has ws ((p.0.0, p.1), id) → WaitsAmong lit ws p
among_waits lit [] p id h k = k
among_waits lit (w ∷ ws) p id h (inl e) = inl (ap (λ (v : WaitingLeaf). named v.0) e, rw e h)
among_waits lit (w ∷ ws) p id h (inr k) = inr (among_waits lit ws p id h k)

waits_among : (lit : ℕ → Bool) (ws : List WaitingLeaf) (p : Tid × ℕ) → WaitsAmong lit ws p → (id : ℕ) × IsTrue (lit id) × Has ws ((p.0.0, p.1), id)
waits_among lit [] p h = absurd h
waits_among lit (w ∷ ws) p (inl h) = (w.1, h.1, inl (ap (λ (q : Tid × ℕ). let r : WaitingLeaf = ((q.0.0, q.1), w.1) in r) h.0))
waits_among lit (w ∷ ws) p (inr h) = (let r = waits_among lit ws p h in (r.0, r.1, inr r.2))

pub lit_leaves_exact : (lit : ℕ → Bool) (ws : List WaitingLeaf) (p : Tid × ℕ) → Contains (lit_leaves_after lit None ws) p ↔ WaitsForLit lit ws p
lit_leaves_exact lit ws p = (
  (λ h. let r = waits_among lit ws p (leaves_wait lit None ws p (has_contains (lit_leaves_after lit None ws) p h)) in (r.0, r.1, contains_has ws ((p.0.0, p.1), r.0) r.2)),
  (λ h. elim (waits_listed lit None ws p (among_waits lit ws p h.0 h.1 (has_contains ws ((p.0.0, p.1), h.0) h.2))) [
    | inl i ↦ contains_has (lit_leaves_after lit None ws) p i
    | inr e ↦ absurd e
  ]),
)
