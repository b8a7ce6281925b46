-- The waited ticks in a part of the order.
use Rattle.std.proofs.Common.{◌≡◌, ◌<◌, ◌≤◌, ℕ, List, [], ◌∷◌, Bool, true, false, cond, Option, Some, refl, arith, inl, inr, ap, sym, ◌∙◌}
use Rattle.std.specs.Prelude.{IsTrue, ◌==◌, ◌⊎◌, ◌↔◌, ◌&&◌, not, unwrap_or, All, AllPairs, Contains}
use Rattle.std.proofs.lemmas.Bool.Decides.{nat_tests}
use Rattle.std.proofs.lemmas.Bool.{false≢true, cases_lt}
use Rattle.std.specs.List.{AllByRecursion, filter}
use Rattle.std.proofs.lemmas.List.Elements.{recursion_from_All}
use Rattle.std.specs.List.Sorted.{IsStrictlySortedBy}
use Rattle.std.specs.Ordering.{nat_cmp, is_lt}
use Rattle.std.specs.declared.cmp.Ordering.TheVariants.{Less}
use Rattle.std.specs.Map.{lookup, keys_of, values_of}
use Rattle.cml_objects.specs.Clocks.{PlainClock, leaves_at, LightsTick}
use Rattle.cml_objects.proofs.LitLeaves.{Has, contains_has, has_contains, Ascending, pairs_ascending}

-- a tick is waited for where it is a key

waited_step : (b : Bool) (u t v w : ℕ) (P : Type 0) → (u == t) ≡ b → (0 < w → P) → 0 < cond b v w → (u ≡ t) ⊎ P
waited_step true u t v w P e f h = inl (grind (arith, nat_tests))
waited_step false u t v w P e f h = inr (f h)

unwrap_cond : (b : Bool) (v : ℕ) (o : Option ℕ) → unwrap_or (cond b (Some v) o) 0 ≡ cond b v (unwrap_or o 0)
unwrap_cond true v o = refl
unwrap_cond false v o = refl

waited_key : (es : List (ℕ × ℕ)) (t : ℕ) → 0 < leaves_at es t → Has (keys_of es) t
waited_key [] t h = absurd (omega arith)
waited_key (e ∷ es) t h = waited_step (e.0 == t) e.0 t e.1 (leaves_at es t) (Has (keys_of es) t) refl (waited_key es t) (rw (unwrap_cond (e.0 == t) e.1 (lookup (λ u. u == t) es)) at h)

key_step : (b : Bool) (u t v w : ℕ) → (u == t) ≡ b → 0 < v → (u ≡ t → ⊥) ⊎ Unit {0} → ((u ≡ t) ⊎ (0 < w)) → 0 < cond b v w
key_step true u t v w e p n h = p
key_step false u t v w e p n (inl i) = absurd (let j : (u == t) ≡ true = grind (arith, nat_tests) in false≢true (sym e ∙ j))
key_step false u t v w e p n (inr i) = i

key_waited : (es : List (ℕ × ℕ)) (t : ℕ) → AllByRecursion (λ n. 0 < n) (values_of es) → Has (keys_of es) t → 0 < leaves_at es t
key_waited [] t p h = absurd h
key_waited (e ∷ es) t p h =
    let next : (e.0 ≡ t) ⊎ (0 < leaves_at es t) = elim h [ inl i ↦ inl i | inr i ↦ inr (key_waited es t p.1 i) ] in
    rw (unwrap_cond (e.0 == t) e.1 (lookup (λ u. u == t) es)) (key_step (e.0 == t) e.0 t e.1 (leaves_at es t) refl p.0 (inr tt) next)

-- the keys that pass a test

has_filter_step : (b : Bool) (p : ℕ → Bool) (e : ℕ × ℕ) (rest : List (ℕ × ℕ)) (t : ℕ) (P : Type 0) → p e.0 ≡ b
    → (Has (keys_of rest) t ↔ (P × IsTrue (p t)))
    → Has (keys_of (cond b (e ∷ rest) rest)) t ↔ (((e.0 ≡ t) ⊎ P) × IsTrue (p t))
has_filter_step true p e rest t P c h = (
  (λ k. elim k [ inl i ↦ (inl i, ap p (sym i) ∙ c) | inr i ↦ (inr (h.0 i).0, (h.0 i).1) ]),
  (λ k. elim k.0 [ inl i ↦ inl i | inr i ↦ inr (h.1 (i, k.1)) ]),
)
has_filter_step false p e rest t P c h = (
  (λ k. (inr (h.0 k).0, (h.0 k).1)),
  (λ k. elim k.0 [ inl i ↦ absurd (false≢true (sym c ∙ ap p i ∙ k.1)) | inr i ↦ h.1 (i, k.1) ]),
)

has_filter : (p : ℕ → Bool) (es : List (ℕ × ℕ)) (t : ℕ) → Has (keys_of (filter (λ e. p e.0) es)) t ↔ (Has (keys_of es) t × IsTrue (p t))
has_filter p [] t = ((λ h. absurd h), (λ h. h.0))
has_filter p (e ∷ es) t = has_filter_step (p e.0) p e (filter (λ e. p e.0) es) t (Has (keys_of es) t) refl (has_filter p es t)

-- exactly the waited ticks that pass the test
pub ticks_exact : (p : ℕ → Bool) (es : List (ℕ × ℕ)) (t : ℕ) → All (λ n. 0 < n) (values_of es) → Contains (keys_of (filter (λ e. p e.0) es)) t ↔ ((0 < leaves_at es t) × IsTrue (p t))
ticks_exact p es t h =
    let part = keys_of (filter (λ e. p e.0) es) in (
      (λ k. let r = (has_filter p es t).0 (has_contains part t k) in (key_waited es t (recursion_from_All (λ n. 0 < n) (values_of es) h) r.0, r.1)),
      (λ k. contains_has part t ((has_filter p es t).1 (waited_key es t k.0, k.1))),
    )

-- in order

less_ticks : (a b : ℕ) → nat_cmp a b ≡ Less → a < b
less_ticks a b h = grind (arith, nat_tests)

above_step : (b : Bool) (t : ℕ) (e : ℕ × ℕ) (rest : List (ℕ × ℕ)) → t < e.0 → AllByRecursion (λ u. t < u) (keys_of rest) → AllByRecursion (λ u. t < u) (keys_of (cond b (e ∷ rest) rest))
above_step true t e rest h k = (h, k)
above_step false t e rest h k = k

above_filter : (p : ℕ → Bool) (t : ℕ) (es : List (ℕ × ℕ)) → AllByRecursion (λ u. nat_cmp t u ≡ Less) (keys_of es) → AllByRecursion (λ u. t < u) (keys_of (filter (λ e. p e.0) es))
above_filter p t [] h = tt
above_filter p t (e ∷ es) h = above_step (p e.0) t e (filter (λ e. p e.0) es) (less_ticks t e.0 h.0) (above_filter p t es h.1)

ascending_step : (b : Bool) (e : ℕ × ℕ) (rest : List (ℕ × ℕ)) → AllByRecursion (λ u. e.0 < u) (keys_of rest)
    → Ascending (λ a b. a < b) (keys_of rest) → Ascending (λ a b. a < b) (keys_of (cond b (e ∷ rest) rest))
ascending_step true e rest h k = (h, k)
ascending_step false e rest h k = k

ascending_filter : (p : ℕ → Bool) (es : List (ℕ × ℕ)) → IsStrictlySortedBy nat_cmp (keys_of es) → Ascending (λ a b. a < b) (keys_of (filter (λ e. p e.0) es))
unfolding IsStrictlySortedBy
ascending_filter p [] h = tt
ascending_filter p (e ∷ es) h = ascending_step (p e.0) e (filter (λ e. p e.0) es) (above_filter p e.0 es h.0) (ascending_filter p es h.1)

pub ticks_in_order : (p : ℕ → Bool) (es : List (ℕ × ℕ)) → IsStrictlySortedBy nat_cmp (keys_of es) → AllPairs (λ a b. a < b) (keys_of (filter (λ e. p e.0) es))
ticks_in_order p es h = pairs_ascending (λ a b. a < b) (keys_of (filter (λ e. p e.0) es)) (ascending_filter p es h)

-- between two times

abbrev pub is_between : ℕ → ℕ → ℕ → Bool
is_between from to t = is_lt (nat_cmp from t) && not (is_lt (nat_cmp to t))

between_bounds : (from to t : ℕ) → IsTrue (is_between from to t) ↔ ((from < t) × (t ≤ to))
between_bounds from to t = ((λ h. (grind (arith, nat_tests), grind (arith, nat_tests))), (λ h. let a : from < t = h.0 in let b : t ≤ to = h.1 in grind (arith, nat_tests)))

pub lights_exact : (clock : PlainClock) (to t : ℕ) → All (λ n. 0 < n) (values_of clock.waited) → Contains (keys_of (filter (λ e. is_between clock.tick to e.0) clock.waited)) t ↔ LightsTick clock to t
lights_exact clock to t h =
    let k = ticks_exact (is_between clock.tick to) clock.waited t h in (
      (λ c. let r = k.0 c in let b = (between_bounds clock.tick to t).0 r.1 in (r.0, b.0, b.1)),
      (λ c. k.1 (c.0, (between_bounds clock.tick to t).1 (c.1, c.2))),
    )

-- above a time

abbrev pub is_above : ℕ → ℕ → Bool
is_above from t = is_lt (nat_cmp from t) && true

above_bound : (from t : ℕ) → from < t → IsTrue (is_above from t)
above_bound from t h = grind (arith, nat_tests)

-- the first of the part is waited for
pub first_waited : (es : List (ℕ × ℕ)) (from t v : ℕ) (rest : List (ℕ × ℕ)) → filter (λ e. is_above from e.0) es ≡ (t, v) ∷ rest → All (λ n. 0 < n) (values_of es) → 0 < leaves_at es t
first_waited es from t v rest e h =
    let there : Contains (keys_of (filter (λ e. is_above from e.0) es)) t = rw e (contains_has (t ∷ keys_of rest) t (inl refl)) in
    ((ticks_exact (is_above from) es t h).0 there).0

least_step : (t u : ℕ) (rest : List ℕ) → AllByRecursion (λ x. t < x) rest → Has (t ∷ rest) u → t ≤ u
least_step t u rest h (inl e) = omega arith
least_step t u [] h (inr k) = absurd k
least_step t u (x ∷ rest) h (inr (inl e)) = (let l : t < x = h.0 in omega arith)
least_step t u (x ∷ rest) h (inr (inr k)) = least_step t u rest h.1 (inr k)

-- and no waited tick of the part is less
pub first_least : (es : List (ℕ × ℕ)) (from t v : ℕ) (rest : List (ℕ × ℕ)) → filter (λ e. is_above from e.0) es ≡ (t, v)
    ∷ rest → All (λ n. 0 < n) (values_of es) → IsStrictlySortedBy nat_cmp (keys_of es) → (u : ℕ) → 0 < leaves_at es u
    → from < u → t ≤ u
first_least es from t v rest e h o u w a =
    let there : Contains (keys_of (filter (λ e. is_above from e.0) es)) u = (ticks_exact (is_above from) es u h).1 (w, above_bound from u a) in
    let order : Ascending (λ a b. a < b) (t ∷ keys_of rest) = rw e at (ascending_filter (is_above from) es o) in
    least_step t u (keys_of rest) order.0 (has_contains (t ∷ keys_of rest) u (rw e at there))

-- where the part is empty no waited tick is above
pub none_above : (es : List (ℕ × ℕ)) (from : ℕ) → filter (λ e. is_above from e.0) es ≡ [] → All (λ n. 0 < n) (values_of es) → (u : ℕ) → 0 < leaves_at es u → u ≤ from
none_above es from e h u w =
    elim (cases_lt from u) [
      | inl a ↦
          let there : Contains (keys_of (filter (λ e. is_above from e.0) es)) u = (ticks_exact (is_above from) es u h).1 (w, above_bound from u a) in
          absurd (has_contains {X = ℕ} [] u (rw e at there))
      | inr b ↦ b
    ]
