-- The derivations of steps are the rows of the scan.
use Rattle.std.proofs.Common.{◌≡◌, ℕ, ◌⊎◌, inl, inr, ⊎_elim, List, [], ◌∷◌, length, map, Option, Some, None, refl, ap, sym, ◌∙◌, subst, subst₂, arith}
use Rattle.std.specs.Prelude.{slice_get, Contains}
use Rattle.cml_value.specs.Value.{PlainValue, unit, PlainBase, send, recv, swap}
use Rattle.cml_value.specs.Group.{PlainGroup, PlainLeaf, leaves, bases}
use Rattle.cml_value.specs.declared.number.Tid.{Tid}
use Rattle.cml_scan.specs.World.{PlainThread, running, pending_on, ended, PlainWorld}
use Rattle.cml_scan.specs.Light.{lit}
use Rattle.cml_scan.specs.Enabled.{leaf_of, WaitsFor, IsSent, IsSwapped, IsEnabled}
use Rattle.cml_scan.specs.declared.meet.Meet.{Meet}
use Rattle.cml_scan.specs.declared.meet.Meet.TheVariants.{Single, Pair}
use Rattle.cml_scan.proofs.Enabling.{scan-members}
use Rattle.cml_book.specs.declared.command.Committed.{Committed}
use Rattle.cml_rules.specs.Rules.{Sequel, Offers, Communicate, sends, swaps, Waits, went_on, given_to, Synchronizes, alone, together}
use Rattle.cml_rules.specs.Places.{ends_at, row_of}
use Rattle.cml_rules.specs.Laws.{Step, StepsAreRows}
use Rattle.cml_rules.proofs.Derivations.{Derived, Ends, get_map, leaf_is, reached, one_each}
use Rattle.cml_rules.proofs.Losing.{some_below}
use Rattle.cml_rules.proofs.Happening.{Happens, alone_lit, lit_happens}
use Rattle.cml_rules.proofs.Unique.{Waiting, waiting_once, happens_once, Meeting, meeting_once, keyed}

-- a thread waits for the base event of a derivation at its leaf
base_is : {g : PlainGroup} {b : PlainBase} {s : Sequel} (d : Offers g b s) → slice_get (bases g) (ends_at d) ≡ Some b
base_is {g = g} d = get_map (λ (l : PlainLeaf). l.base) (leaves g) (ends_at d) _ (leaf_is d)

waits_for : (w : PlainWorld) (t : ℕ) {g : PlainGroup} {b : PlainBase} {s : Sequel} (d : Offers g b s) → Waits w t g → WaitsFor w (record { 0 = t }) (ends_at d) b
waits_for w t {g = g} {b = b} d p = subst (λ o. leaf_of o (ends_at d) ≡ Some b) (sym p) (base_is d)

meet_enabled : (w : PlainWorld) {t u : ℕ} {a b : PlainBase} {x y : PlainValue} (m : Communicate t u a b x y) (i j : ℕ) → WaitsFor w (record { 0 = t }) i a → WaitsFor w (record { 0 = u }) j b
    → IsSent w (record { 0 = t }) i (record { 0 = u }) j ⊎ IsSwapped w (record { 0 = t }) i (record { 0 = u }) j
meet_enabled w (sends c v h) i j p q = inl (c, v, p, q, h)
meet_enabled w (swaps s x y h) i j p q = inr (s, x, y, p, q, h)

pub step_enabled : {w w' : PlainWorld} {c : Committed} (d : Synchronizes w w' c) → IsEnabled w (row_of d)
step_enabled {w = w} (alone t g b s v w' p d h) = (b, waits_for w t d p, alone_lit h)
step_enabled {w = w} (together t u g h a b r s x y p q d e m) = meet_enabled w m (ends_at d) (ends_at e) (waits_for w t d p) (waits_for w u e q)

-- where a thread waits for a base event at a leaf, its group offers that there
record IsOffered (w : PlainWorld) (t n : ℕ) (b : PlainBase) : Type 0 where
  group : PlainGroup
  waits : Waits w t group
  ends : Ends group n
  same : ends.base ≡ b

length_map : {A B : Type 0} (f : A → B) (xs : List A) → length (map f xs) ≡ length xs
length_map f [] = refl
length_map f (x ∷ xs) = ap Rattle.std.specs.Prelude.suc (length_map f xs)

offered : (w : PlainWorld) (t : Tid) (n : ℕ) (b : PlainBase) → WaitsFor w t n b → IsOffered w t.0 n b
offered w t n b h = at (slice_get w.threads t.0) refl h
  where
    at : (o : Option PlainThread) → slice_get w.threads t.0 ≡ o → leaf_of o n ≡ Some b → IsOffered w t.0 n b
    at None p e = cc
    at (Some running) p e = cc
    at (Some ended) p e = cc
    at (Some (pending_on g)) p e =
        let k = length_map (λ (l : PlainLeaf). l.base) (leaves g) in
        let l = some_below (bases g) n b e in
        let r = reached g n (omega arith) in
        record { group = g; waits = p; ends = r; same = there r.base b (sym (base_is r.derivation) ∙ ap (slice_get (bases g)) r.at ∙ e) }
      where
        there : (a b : PlainBase) → Some a ≡ Some b → a ≡ b
        there a b e = cc

-- a step of this row
abbrev IsOf : PlainWorld → Meet → Type 0
IsOf w row = (s : Step w) × (row_of s.derivation ≡ row)

single_step : (w : PlainWorld) (t : Tid) (n : ℕ) → IsEnabled w (Single t n) → IsOf w (Single t n)
single_step w t n h =
    let o = offered w t n h.0 h.1 in
    let r = o.ends in
    let l = lit_happens w r.base (ap (lit w) o.same ∙ h.2) in (
      record {
        next = went_on l.1 t.0 o.group r.sequel;
        gives = record
            { head = given_to t.0 l.0 r.sequel; partner = None };
        derivation = alone t.0 o.group r.base r.sequel l.0 l.1
            o.waits r.derivation l.2;
      },
      ap (Single t) r.at,
    )

pair_step : (w : PlainWorld) (t u : Tid) (n m : ℕ) (a b : PlainBase) (x y : PlainValue) → WaitsFor w t n a → WaitsFor w u m b → Communicate t.0 u.0 a b x y → IsOf w (Pair t n u m)
pair_step w t u n m a b x y h k meet =
    let o = offered w t n a h in
    let p = offered w u m b k in
    let q = o.ends in
    let r = p.ends in
    let both = subst₂ (λ c d. Communicate t.0 u.0 c d x y) (sym o.same) (sym p.same) meet in (
      record {
        next = went_on (went_on w t.0 o.group q.sequel) u.0 p.group r.sequel;
        gives = record { head = given_to t.0 x q.sequel; partner = Some (given_to u.0 y r.sequel) };
        derivation = together t.0 u.0 o.group p.group q.base r.base q.sequel r.sequel x y o.waits p.waits q.derivation r.derivation both;
      },
      ap (λ i. Pair t i u (ends_at r.derivation)) q.at ∙ ap (λ j. Pair t n u j) r.at,
    )

pub enabled_step : (w : PlainWorld) (row : Meet) → IsEnabled w row → IsOf w row
enabled_step w (Single t n) h = single_step w t n h
enabled_step w (Pair t n u m) h =
    ⊎_elim
    (λ (s : IsSent w t n u m). pair_step w t u n m (send s.0 s.1) (recv s.0) unit s.1 s.2 s.3 (sends s.0 s.1 s.4))
    (λ (s : IsSwapped w t n u m). pair_step w t u n m (swap s.0 s.1) (swap s.0 s.2) s.2 s.1 s.3 s.4 (swaps s.0 s.1 s.2 s.5))
    h

-- the parts of a derivation of one party, by its thread
abbrev Solo : PlainWorld → Type 0
Solo w = (t : ℕ) × ((p : Waiting w t) × ((d : Derived p.0) × Happens w d.0))

abbrev Duo : PlainWorld → Type 0
Duo w = (t : ℕ) × ((u : ℕ) × ((p : Waiting w t) × ((q : Waiting w u) × ((d : Derived p.0) × ((e : Derived q.0) × Meeting t u d.0 e.0)))))

of_solo : (w : PlainWorld) → Solo w → Step w
of_solo w s =
    let d = s.1.1.0 in
    let h = s.1.1.1 in
    record {
      next = went_on h.1 s.0 s.1.0.0 d.1;
      gives = record { head = given_to s.0 h.0 d.1; partner = None };
      derivation = alone s.0 s.1.0.0 d.0 d.1 h.0 h.1 s.1.0.1 d.2 h.2;
    }

of_duo : (w : PlainWorld) → Duo w → Step w
of_duo w s =
    let t = s.0 in
    let u = s.1.0 in
    let p = s.1.1.0 in
    let q = s.1.1.1.0 in
    let d = s.1.1.1.1.0 in
    let e = s.1.1.1.1.1.0 in
    let m = s.1.1.1.1.1.1 in
    record {
      next = went_on (went_on w t p.0 d.1) u q.0 e.1;
      gives = record { head = given_to t m.0 d.1; partner = Some (given_to u m.1 e.1) };
      derivation = together t u p.0 q.0 d.0 e.0 d.1 e.1 m.0 m.1 p.1 q.1 d.2 e.2 m.2;
    }

solo_once : (w : PlainWorld) (x y : Solo w) → x.0 ≡ y.0 → ends_at x.1.1.0.2 ≡ ends_at y.1.1.0.2 → x ≡ y
solo_once w =
    keyed {L = ℕ} (λ t. t) (λ t s. ends_at s.1.0.2) (λ t u e. e)
    (λ t x y e.
    keyed {K = Unit {0}} {L = ℕ} (λ (p : Waiting w t). tt) (λ p s. ends_at s.0.2) (λ p q _. waiting_once w t p q)
    (λ p x y e. keyed {K = ℕ} {L = Unit {0}} (λ (d : Derived p.0). ends_at d.2) (λ d h. tt) one_each (λ d h k _. happens_once w d.0 h k) x y e refl)
    x y refl e)

abbrev Two : Type 0
Two = ℕ × ℕ

duo_once : (w : PlainWorld) (x y : Duo w) → x.0 ≡ y.0 → x.1.0 ≡ y.1.0 → Path Two (ends_at x.1.1.1.1.0.2, ends_at x.1.1.1.1.1.0.2) (ends_at y.1.1.1.1.0.2, ends_at y.1.1.1.1.1.0.2) → x ≡ y
duo_once w x y e f g =
    keyed {K = ℕ} {L = ℕ × Two} (λ t. t) (λ t s. (s.0, (ends_at s.1.1.1.0.2, ends_at s.1.1.1.1.0.2))) (λ t u e. e)
    (λ t x y e.
    keyed {K = ℕ} {L = Two} (λ u. u) (λ u s. (ends_at s.1.1.0.2, ends_at s.1.1.1.0.2)) (λ u v e. e)
    (λ u x y e.
    keyed {K = Unit {0}} {L = Two} (λ (p : Waiting w t). tt) (λ p s. (ends_at s.1.0.2, ends_at s.1.1.0.2)) (λ p q _. waiting_once w t p q)
    (λ p x y e.
    keyed {K = Unit {0}} {L = Two} (λ (q : Waiting w u). tt) (λ q s. (ends_at s.0.2, ends_at s.1.0.2)) (λ p q _. waiting_once w u p q)
    (λ q x y e.
    keyed {K = ℕ} {L = ℕ} (λ (d : Derived p.0). ends_at d.2) (λ d s. ends_at s.0.2) one_each
    (λ d x y e. keyed {K = ℕ} {L = Unit {0}} (λ (c : Derived q.0). ends_at c.2) (λ c m. tt) one_each (λ c m n _. meeting_once t u d.0 c.0 m n) x y e refl)
    x y (ap (λ (p : Two). p.0) e) (ap (λ (p : Two). p.1) e))
    x y refl e)
    x y refl e)
    x y (ap (λ (p : ℕ × Two). p.0) e) (ap (λ (p : ℕ × Two). p.1) e))
    x y e (λ i. (f i, g i))

-- the numbers in a row
abbrev head_in : Meet → ℕ
head_in (Single t n) = t.0
head_in (Pair t n u m) = t.0

abbrev leaf_in : Meet → ℕ
leaf_in (Single t n) = n
leaf_in (Pair t n u m) = n

abbrev other_in : Meet → ℕ
other_in (Single t n) = 0
other_in (Pair t n u m) = u.0

abbrev other_leaf_in : Meet → ℕ
other_leaf_in (Single t n) = 0
other_leaf_in (Pair t n u m) = m

abbrev IsSingle : Meet → Type 0
IsSingle (Single t n) = Unit {0}
IsSingle (Pair t n u m) = ⊥

one_row : {w v v' : PlainWorld} {c c' : Committed} (d : Synchronizes w v c) (e : Synchronizes w v' c') → row_of d ≡ row_of e
    → Path (Step w) (record { next = v; gives = c; derivation = d }) (record { next = v'; gives = c'; derivation = e })
unfolding of_solo of_duo
one_row {w = w} (alone t g b s v w' p d h) (alone t2 g2 b2 s2 v2 w2 p2 d2 h2) same =
    ap (of_solo w) (solo_once w (t, ((g, p), ((b, s, d), (v, w', h)))) (t2, ((g2, p2), ((b2, s2, d2), (v2, w2, h2)))) (ap head_in same) (ap leaf_in same))
one_row (alone t g b s v w' p d h) (together t2 u2 g2 h2 a2 b2 r2 s2 x2 y2 p2 q2 d2 e2 m2) same = absurd (subst IsSingle same tt)
one_row (together t2 u2 g2 h2 a2 b2 r2 s2 x2 y2 p2 q2 d2 e2 m2) (alone t g b s v w' p d h) same = absurd (subst IsSingle (sym same) tt)
one_row {w = w} (together t u g h a b r s x y p q d e m) (together t2 u2 g2 h2 a2 b2 r2 s2 x2 y2 p2 q2 d2 e2 m2) same =
    ap (of_duo w)
    (duo_once w (t, (u, ((g, p), ((h, q), ((a, r, d), ((b, s, e), (x, y, m))))))) (t2, (u2, ((g2, p2), ((h2, q2), ((a2, r2, d2), ((b2, s2, e2), (x2, y2, m2)))))))
    (ap head_in same) (ap other_in same) (λ i. (leaf_in (same i), other_leaf_in (same i))))

pub steps_are_rows : (w : PlainWorld) → StepsAreRows w
steps_are_rows w = record {
  row = λ s. (scan-members w (row_of s.derivation)).1 (step_enabled s.derivation);
  each = λ row h. enabled_step w row ((scan-members w row).0 h);
  once = λ r s same. one_row r.derivation s.derivation same;
}
