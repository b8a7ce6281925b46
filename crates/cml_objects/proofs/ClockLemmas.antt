-- How many leaves wait for a tick after one comes or goes.
use Rattle.std.proofs.Common.{◌≡◌, ◌<◌, ◌≤◌, ◌+◌, ◌-◌, ℕ, List, [], ◌∷◌, Bool, true, false, cond, Option, Some, None, Result, Ok, Err, refl, arith, ap, sym, ◌∙◌}
use Rattle.std.specs.Prelude.{if◌then◌else◌, ◌==◌, unwrap_or, OnOk, OnErr}
use Rattle.std.proofs.lemmas.Bool.Decides.{nat_tests}
use Rattle.std.specs.Ordering.{nat_cmp}
use Rattle.std.specs.Map.{lookup}
use Rattle.std.specs.BTreeMap.{BTreeMap, is_at}
use Rattle.std.specs.BTreeMap as tree
use Rattle.cml_objects.specs.Clocks.{leaves_at, AddsLeaf, RemovesLeaf}

same_test : (t u : ℕ) → (u == t) ≡ is_at (nat_cmp t) u
same_test t u = grind (arith, nat_tests)

lookup_agree : (p q : ℕ → Bool) → ((u : ℕ) → p u ≡ q u) → (es : List (ℕ × ℕ)) → lookup p es ≡ lookup q es
lookup_agree p q h [] = refl
lookup_agree p q h (e ∷ es) = rw (h e.0, lookup_agree p q h es) refl

pub leaves_by_get : (m : BTreeMap ℕ ℕ) (t : ℕ) → leaves_at m.entries t ≡ unwrap_or (tree.get nat_cmp m t) 0
leaves_by_get m t = ap (λ o. unwrap_or o 0) (lookup_agree (λ u. u == t) (is_at (nat_cmp t)) (same_test t) m.entries)

abbrev pub SetsAt : ℕ → Option ℕ → BTreeMap ℕ ℕ → BTreeMap ℕ ℕ → Type 0
SetsAt tick w m n = (q : ℕ) → tree.get nat_cmp n q ≡ cond (is_at (nat_cmp tick) q) w (tree.get nat_cmp m q)

choice_step : (b : Bool) (w o : Option ℕ) → unwrap_or (cond b w o) 0 ≡ cond b (unwrap_or w 0) (unwrap_or o 0)
choice_step true w o = refl
choice_step false w o = refl

turned : (t tick : ℕ) → is_at (nat_cmp tick) t ≡ (t == tick)
turned t tick = sym (same_test tick t)

updated : (m n : BTreeMap ℕ ℕ) (tick : ℕ) (w : Option ℕ) → SetsAt tick w m n → (t : ℕ) → leaves_at n.entries t ≡ cond (t == tick) (unwrap_or w 0) (leaves_at m.entries t)
updated m n tick w h t =
    leaves_by_get n t
    ∙ ap (λ o. unwrap_or o 0) (h t)
    ∙ choice_step (is_at (nat_cmp tick) t) w (tree.get nat_cmp m t)
    ∙ (rw (turned t tick, leaves_by_get m t) refl)

equal_ticks : (t tick : ℕ) → (t == tick) ≡ true → t ≡ tick
equal_ticks t tick h = grind (arith, nat_tests)

adds_step : (b : Bool) (l new old : ℕ) → new ≡ cond b (l + 1) old → (b ≡ true → old ≡ l) → new ≡ (if b then old + 1 else old)
adds_step true l new old h k = (let e : old ≡ l = k refl in rw e h)
adds_step false l new old h k = h

pub adds_leaf : (m n : BTreeMap ℕ ℕ) (tick l : ℕ) → l ≡ leaves_at m.entries tick → SetsAt tick (Some (l + 1)) m n → AddsLeaf tick m.entries n.entries
adds_leaf m n tick l e h t = adds_step (t == tick) l (leaves_at n.entries t) (leaves_at m.entries t)
    (updated m n tick (Some (l + 1)) h t) (λ b. ap (leaves_at m.entries) (equal_ticks t tick b) ∙ sym e)

removes_step : (b : Bool) (l new old : ℕ) (w : Option ℕ) → unwrap_or w 0 ≡ l - 1 → new ≡ cond b (unwrap_or w 0) old → (b ≡ true → old ≡ l) → new ≡ (if b then old - 1 else old)
removes_step true l new old w e h k = (let i : old ≡ l = k refl in rw i (h ∙ e))
removes_step false l new old w e h k = h

removes_leaf : (m n : BTreeMap ℕ ℕ) (tick l : ℕ) (w : Option ℕ) → l ≡ leaves_at m.entries tick → unwrap_or w 0 ≡ l - 1 → SetsAt tick w m n → RemovesLeaf tick m.entries n.entries
removes_leaf m n tick l w e f h t = removes_step (t == tick) l (leaves_at n.entries t) (leaves_at m.entries t) w f
    (updated m n tick w h t) (λ b. ap (leaves_at m.entries) (equal_ticks t tick b) ∙ sym e)

pub removes_one : (m n : BTreeMap ℕ ℕ) (tick l : ℕ) → l ≡ leaves_at m.entries tick → SetsAt tick (Some (l - 1)) m n → RemovesLeaf tick m.entries n.entries
removes_one m n tick l e h = removes_leaf m n tick l (Some (l - 1)) e refl h

pub removes_last : (m n : BTreeMap ℕ ℕ) (tick l : ℕ) → l ≤ 1 → l ≡ leaves_at m.entries tick → SetsAt tick None m n → RemovesLeaf tick m.entries n.entries
removes_last m n tick l b e h = (let f : 0 ≡ l - 1 = omega arith in removes_leaf m n tick l None e f h)

none_there : (o : Option ℕ) → o ≡ None → 0 < unwrap_or o 0 → ⊥
none_there None e h = absurd (omega arith)
none_there (Some v) e h = cc

-- a tick that is waited for is in the map
pub not_absent : (m : BTreeMap ℕ ℕ) (tick : ℕ) → tree.get nat_cmp m tick ≡ None → 0 < leaves_at m.entries tick → ⊥
not_absent m tick e h = none_there (tree.get nat_cmp m tick) e (rw (leaves_by_get m tick) at h)

-- what an insert of a tick that is there does
pub sure_insert : {E : Type 0} (P Q : Type 0) (r : Result (Option ℕ) E) → OnOk r P → OnErr r Q → (Q → ⊥) → P
sure_insert P Q (Ok o) h k n = h
sure_insert P Q (Err e) h k n = absurd (n k)
