-- A world, a row's threads and its leaves leave no choice in a derivation: base events happen and meet in one way only.
use Rattle.std.proofs.Common.{◌≡◌, ◌≢◌, ℕ, ◌<◌, ◌≤◌, List, ◌∷◌, Option, Some, None, refl, ap, sym, ◌∙◌, subst}
use Rattle.std.specs.Prelude.{slice_get, slice_set}
use Rattle.std.specs.Coded.{Coded-set, coded_option, coded_list, le_prop, ×_prop, Unit-prop}
use mathlib.Core.Path.{path_j, subst_refl}
use mathlib.Core.HLevel.{Σ_prop_path, ¬_prop, ⊥_prop}
use native.Mathlib.Nat.{ℕ_set}
use Rattle.cml_value.specs.Value.{PlainValue, unit, PlainBase, always, send, recv, swap, iget, mtake, mget, mswap, mail_recv, port_recv, join, at_tick, after_ticks, nack}
use Rattle.cml_value.specs.Codes.{value_code}
use Rattle.cml_value.specs.Group.{PlainGroup}
use Rattle.cml_scan.specs.World.{PlainThread, pending_on, ended, fired, PlainWorld}
use Rattle.cml_scan.specs.Codes.{thread_code, nack_code}
use Rattle.cml_rules.specs.Rules.{Alone, at_any_time, gets, reads, takes, replaces, mailed, posted, joins, comes, fires, Communicate, sends, swaps, Waits}
use Rattle.cml_rules.proofs.Happening.{Happens}

-- what a base event needs to happen alone
abbrev IsFull : Option (Option PlainValue) → Type 0
IsFull o = (v : PlainValue) × (o ≡ Some (Some v))

abbrev HasFirst : Option (List PlainValue) → Type 0
HasFirst o = (x : PlainValue × List PlainValue) × (o ≡ Some (x.0 ∷ x.1))

abbrev Needs : PlainWorld → PlainBase → Type 0
Needs w (always v) = Unit {0}
Needs w (send c v) = ⊥
Needs w (recv c) = ⊥
Needs w (swap s v) = ⊥
Needs w (iget i) = IsFull (slice_get w.ivars i)
Needs w (mtake m) = IsFull (slice_get w.mvars m)
Needs w (mget m) = IsFull (slice_get w.mvars m)
Needs w (mswap m u) = IsFull (slice_get w.mvars m)
Needs w (mail_recv b) = HasFirst (slice_get w.mailboxes b)
Needs w (port_recv p) = HasFirst (slice_get w.ports p)
Needs w (join t) = slice_get w.threads t ≡ Some ended
Needs w (at_tick t) = t ≤ w.tick
Needs w (after_ticks d) = ⊥
Needs w (nack k) = slice_get w.nacks k ≡ Some fired

some_some : (u v : PlainValue) (o : Option (Option PlainValue)) → o ≡ Some (Some u) → o ≡ Some (Some v) → u ≡ v
some_some u v o e f = cc

full_once : (o : Option (Option PlainValue)) → IsProp (IsFull o)
full_once o = λ x y. Σ_prop_path (λ v. Coded-set (coded_option (coded_option value_code)) o (Some (Some v))) (some_some x.0 y.0 o x.1 y.1)

some_first : (x y : PlainValue × List PlainValue) (o : Option (List PlainValue)) → o ≡ Some (x.0 ∷ x.1) → o ≡ Some (y.0 ∷ y.1) → x ≡ y
some_first x y o e f = let h : x.0 ≡ y.0 = cc in let t : x.1 ≡ y.1 = cc in λ i. (h i, t i)

first_once : (o : Option (List PlainValue)) → IsProp (HasFirst o)
first_once o = λ x y. Σ_prop_path (λ v. Coded-set (coded_option (coded_list value_code)) o (Some (v.0 ∷ v.1))) (some_first x.0 y.0 o x.1 y.1)

needs_once : (w : PlainWorld) (b : PlainBase) → IsProp (Needs w b)
needs_once w (always v) = Unit-prop
needs_once w (send c v) = ⊥_prop
needs_once w (recv c) = ⊥_prop
needs_once w (swap s v) = ⊥_prop
needs_once w (iget i) = full_once (slice_get w.ivars i)
needs_once w (mtake m) = full_once (slice_get w.mvars m)
needs_once w (mget m) = full_once (slice_get w.mvars m)
needs_once w (mswap m u) = full_once (slice_get w.mvars m)
needs_once w (mail_recv b) = first_once (slice_get w.mailboxes b)
needs_once w (port_recv p) = first_once (slice_get w.ports p)
needs_once w (join t) = Coded-set (coded_option thread_code) (slice_get w.threads t) (Some ended)
needs_once w (at_tick t) = le_prop
needs_once w (after_ticks d) = ⊥_prop
needs_once w (nack k) = Coded-set (coded_option nack_code) (slice_get w.nacks k) (Some fired)

needed : {w : PlainWorld} {b : PlainBase} {v : PlainValue} {w' : PlainWorld} → Alone w b v w' → Needs w b
needed (at_any_time v) = tt
needed (gets i v e) = (v, e)
needed (reads m v e) = (v, e)
needed (takes m v e) = (v, e)
needed (replaces m u v e) = (v, e)
needed (mailed b v vs e) = ((v, vs), e)
needed (posted p v vs e) = ((v, vs), e)
needed (joins t e) = e
needed (comes t h) = h
needed (fires k e) = e

happens : (w : PlainWorld) (b : PlainBase) → Needs w b → Happens w b
happens w (always v) n = (v, w, at_any_time v)
happens w (send c v) n = absurd n
happens w (recv c) n = absurd n
happens w (swap s v) n = absurd n
happens w (iget i) n = (n.0, w, gets i n.0 n.1)
happens w (mtake m) n = (n.0, record w { mvars = slice_set w.mvars m None }, takes m n.0 n.1)
happens w (mget m) n = (n.0, w, reads m n.0 n.1)
happens w (mswap m u) n = (n.0, record w { mvars = slice_set w.mvars m (Some u) }, replaces m u n.0 n.1)
happens w (mail_recv b) n = (n.0.0, record w { mailboxes = slice_set w.mailboxes b n.0.1 }, mailed b n.0.0 n.0.1 n.1)
happens w (port_recv p) n = (n.0.0, record w { ports = slice_set w.ports p n.0.1 }, posted p n.0.0 n.0.1 n.1)
happens w (join t) n = (unit, w, joins t n)
happens w (at_tick t) n = (unit, w, comes t n)
happens w (after_ticks d) n = absurd n
happens w (nack k) n = (unit, w, fires k n)

back : {w : PlainWorld} {b : PlainBase} {v : PlainValue} {w' : PlainWorld} (h : Alone w b v w') → happens w b (needed h) ≡ (v, w', h)
unfolding happens needed
back (at_any_time v) = refl
back (gets i v e) = refl
back (reads m v e) = refl
back (takes m v e) = refl
back (replaces m u v e) = refl
back (mailed b v vs e) = refl
back (posted p v vs e) = refl
back (joins t e) = refl
back (comes t h) = refl
back (fires k e) = refl

pub happens_once : (w : PlainWorld) (b : PlainBase) → IsProp (Happens w b)
happens_once w b = λ x y. sym (back x.2) ∙ ap (happens w b) (needs_once w b (needed x.2) (needed y.2)) ∙ back y.2

-- two base events meet, with what each party is given
abbrev pub Meeting : ℕ → ℕ → PlainBase → PlainBase → Type 0
Meeting t u a b = (x : PlainValue) × (y : PlainValue) × Communicate t u a b x y

abbrev Fit : ℕ → ℕ → PlainBase → PlainBase → Type 0
Fit t u (send c v) (recv d) = (c ≡ d) × (t ≢ u)
Fit t u (swap s x) (swap r y) = (s ≡ r) × (t < u)
Fit t u _ _ = ⊥

fit_once : (t u : ℕ) (a b : PlainBase) → IsProp (Fit t u a b)
fit_once t u (send c v) (recv d) = ×_prop (ℕ_set c d) ¬_prop
fit_once t u (swap s x) (swap r y) = ×_prop (ℕ_set s r) le_prop
fit_once t u _ _ = ⊥_prop

fitting : {t u : ℕ} {a b : PlainBase} {x y : PlainValue} → Communicate t u a b x y → Fit t u a b
fitting (sends c v h) = (refl, h)
fitting (swaps s x y h) = (refl, h)

meeting : (t u : ℕ) (a b : PlainBase) → Fit t u a b → Meeting t u a b
meeting t u (send c v) (recv d) f = (unit, v, subst (λ k. Communicate t u (send c v) (recv k) unit v) f.0 (sends c v f.1))
meeting t u (swap s x) (swap r y) f = (y, x, subst (λ k. Communicate t u (swap s x) (swap k y) y x) f.0 (swaps s x y f.1))
meeting t u _ _ f = absurd f

met : {t u : ℕ} {a b : PlainBase} {x y : PlainValue} (m : Communicate t u a b x y) → meeting t u a b (fitting m) ≡ (x, y, m)
unfolding meeting fitting
met {t = t} {u = u} (sends c v h) = ap {B = Meeting t u (send c v) (recv c)} (λ m. (unit, v, m)) (subst_refl (λ k. Communicate t u (send c v) (recv k) unit v) (sends c v h))
met {t = t} {u = u} (swaps s x y h) = ap {B = Meeting t u (swap s x) (swap s y)} (λ m. (y, x, m)) (subst_refl (λ k. Communicate t u (swap s x) (swap k y) y x) (swaps s x y h))

pub meeting_once : (t u : ℕ) (a b : PlainBase) → IsProp (Meeting t u a b)
meeting_once t u a b = λ x y. sym (met x.2) ∙ ap (meeting t u a b) (fit_once t u a b (fitting x.2) (fitting y.2)) ∙ met y.2

-- the group that a thread waits on
abbrev pub Waiting : PlainWorld → ℕ → Type 0
Waiting w t = (g : PlainGroup) × Waits w t g

same_group : (g h : PlainGroup) (o : Option PlainThread) → o ≡ Some (pending_on g) → o ≡ Some (pending_on h) → g ≡ h
same_group g h o e f = cc

pub waiting_once : (w : PlainWorld) (t : ℕ) → IsProp (Waiting w t)
waiting_once w t = λ x y. Σ_prop_path (λ g. Coded-set (coded_option thread_code) (slice_get w.threads t) (Some (pending_on g))) (same_group x.0 y.0 (slice_get w.threads t) x.1 y.1)

-- pairs whose parts are named by keys
pub keyed : {A : Type 0} {B : A → Type 0} {K L : Type 0} (k : A → K) (l : (a : A) → B a → L) → ((x y : A) → k x ≡ k y → x ≡ y) → ((a : A) (x y : B a) → l a x ≡ l a y → x ≡ y)
    → (x y : (a : A) × B a) → k x.0 ≡ k y.0 → l x.0 x.1 ≡ l y.0 y.1 → x ≡ y
keyed {A = A} {B = B} k l i j x y e f =
    path_j (λ a p. (b : B a) → l x.0 x.1 ≡ l a b → Path ((a : A) × B a) x (a, b)) (λ b g. let h = j x.0 x.1 b g in λ n. (x.0, h n)) (i x.0 y.0 e) y.1 f
