-- The next alarm that the book tells is the least tick to come.
use Rattle.std.proofs.Common.{◌≡◌, ◌⊎◌, inl, inr, ℕ, zero, suc, ◌<◌, ◌≤◌, Bool, true, false, nat_lt, cond, min, List, [], ◌∷◌, refl, ap, sym, ◌∙◌, arith, Option, Some, None}
use Rattle.std.specs.Prelude.{Contains, IfSome, IfNone}
use Rattle.std.specs.List.{filter_map}
use Rattle.std.specs.Option.{option_map_or}
use Rattle.std.proofs.lemmas.Bool.Decides.{nat_tests}
use Rattle.cml_value.specs.Value.{PlainBase, at_tick}
use Rattle.cml_scan.specs.World.{PlainWorld, pending}
use Rattle.cml_book.specs.Clock.{bases_awaited, IsAlarm}
use Rattle.cml_hub.specs.Runs.{tick_to_come, least, next_alarm}

-- a tick to come, for which one of these base events waits
abbrev pub Comes : ℕ → List PlainBase → ℕ → Type 0
Comes now bs t = (now < t) × Contains bs (at_tick t)

-- this is one of them and the least, or there is none
abbrev pub IsLeast : ℕ → List PlainBase → Option ℕ → Type 0
IsLeast now bs (Some t) = Comes now bs t × ((u : ℕ) → Comes now bs u → t ≤ u)
IsLeast now bs None = (u : ℕ) → Comes now bs u → ⊥

later : (now : ℕ) (b : PlainBase) (bs : List PlainBase) (t : ℕ) → Comes now bs t → Comes now (b ∷ bs) t
later now b bs t h = (h.0, (suc h.1.0, omega (arith, h.1.1), h.1.2))

comes_cases : (now : ℕ) (b : PlainBase) (bs : List PlainBase) (t : ℕ) → Comes now (b ∷ bs) t → ((now < t) × (b ≡ at_tick t)) ⊎ Comes now bs t
comes_cases now b bs t (lt, (zero, within, is)) = inl (lt, is)
comes_cases now b bs t (lt, (suc k, within, is)) = inr (lt, (k, omega arith, is))

tick_if : (now t u : ℕ) (c : Bool) → nat_lt now t ≡ c → cond c (Some t) None ≡ Some u → (now < t) × (t ≡ u)
tick_if now t u true p e = (grind (arith, nat_tests), cc)
tick_if now t u false p e = cc

tick_is : (now u : ℕ) (b : PlainBase) → tick_to_come now b ≡ Some u → (now < u) × (b ≡ at_tick u)
tick_is now u (at_tick t) e = let h = tick_if now t u (nat_lt now t) refl e in (omega (arith, h.0, h.1), ap at_tick h.1)
tick_is now u _ e = cc

none_if : (now t : ℕ) (c : Bool) → nat_lt now t ≡ c → now < t → cond c (Some t) None ≡ None → ⊥
none_if now t true p lt e = cc
none_if now t false p lt e = (let le : t ≤ now = grind (arith, nat_tests) in absurd (omega arith))

no_tick : (now t : ℕ) (b : PlainBase) → tick_to_come now b ≡ None → now < t → b ≡ at_tick t → ⊥
no_tick now t b e lt is = none_if now t (nat_lt now t) refl lt (rw is at e)

same_tick : (t u : ℕ) → at_tick t ≡ at_tick u → t ≡ u
same_tick t u e = cc

-- the base event waits for no tick to come
least_skip : (now : ℕ) (b : PlainBase) (bs : List PlainBase) (o : Option ℕ) → tick_to_come now b ≡ None → IsLeast now bs o → IsLeast now (b ∷ bs) o
least_skip now b bs (Some t) e h =
    (later now b bs t h.0, λ u c. (elim (comes_cases now b bs u c) [ inl x ↦ absurd (no_tick now u b e x.0 x.1) | inr y ↦ h.1 u y ]))
least_skip now b bs None e h = λ u c. (elim (comes_cases now b bs u c) [ inl x ↦ no_tick now u b e x.0 x.1 | inr y ↦ h u y ])

min_cases : (t m : ℕ) → ((min t m ≡ t) × (t ≤ m)) ⊎ ((min t m ≡ m) × (m ≤ t))
min_cases t m = grind arith

least_with : (now t m : ℕ) (b : PlainBase) (bs : List PlainBase) (n : ℕ) → (now < t) → b ≡ at_tick t → Comes now bs m → ((u : ℕ) → Comes now bs u → m ≤ u)
    → ((n ≡ t) × (t ≤ m)) ⊎ ((n ≡ m) × (m ≤ t)) → IsLeast now (b ∷ bs) (Some n)
least_with now t m b bs n lt is c h (inl x) = (
  rw (x.0) (lt, (zero, omega arith, is)),
  λ u d. (elim (comes_cases now b bs u d) [ inl y ↦ omega (arith, x.0, same_tick t u (sym is ∙ y.1)) | inr z ↦ omega (arith, x.0, x.1, h u z) ]),
)
least_with now t m b bs n lt is c h (inr x) = (
  rw (x.0) (later now b bs m c),
  λ u d. (elim (comes_cases now b bs u d) [ inl y ↦ omega (arith, x.0, x.1, same_tick t u (sym is ∙ y.1)) | inr z ↦ omega (arith, x.0, h u z) ]),
)

least_more : (now t : ℕ) (b : PlainBase) (bs : List PlainBase) (o : Option ℕ) → tick_to_come now b ≡ Some t → IsLeast now bs o → IsLeast now (b ∷ bs) (Some (option_map_or (min t) o t))
least_more now t b bs (Some m) e h = let is = tick_is now t b e in least_with now t m b bs (min t m) is.0 is.1 h.0 h.1 (min_cases t m)
least_more now t b bs None e h =
    let is = tick_is now t b e in
    ((is.0, (zero, omega arith, is.1)), λ u d. (elim (comes_cases now b bs u d) [ inl y ↦ omega (arith, same_tick t u (sym is.1 ∙ y.1)) | inr z ↦ absurd (h u z) ]))

least_at : (now : ℕ) (b : PlainBase) (bs : List PlainBase) (o : Option ℕ) → tick_to_come now b ≡ o
    → IsLeast now bs (least (filter_map (tick_to_come now) bs))
    → IsLeast now (b ∷ bs) (least (filter_map (tick_to_come now) (b ∷ bs)))
least_at now b bs None e h = rw e (least_skip now b bs (least (filter_map (tick_to_come now) bs)) e h)
least_at now b bs (Some t) e h = rw e (least_more now t b bs (least (filter_map (tick_to_come now) bs)) e h)

pub least_is : (now : ℕ) (bs : List PlainBase) → IsLeast now bs (least (filter_map (tick_to_come now) bs))
least_is now [] = λ u c. absurd (omega (arith, c.1.1))
least_is now (b ∷ bs) = least_at now b bs (tick_to_come now b) refl (least_is now bs)

one_least : (now : ℕ) (bs : List PlainBase) (o p : Option ℕ) → IsLeast now bs o → IsLeast now bs p → o ≡ p
one_least now bs (Some t) (Some u) h g = let e : t ≡ u = omega (arith, h.1 u g.0, g.1 t h.0) in ap (λ n. Some n) e
one_least now bs (Some t) None h g = absurd (g t h.0)
one_least now bs None (Some u) h g = absurd (h u g.0)
one_least now bs None None h g = refl

told_least : (w : PlainWorld) (o : Option ℕ) → IfSome o (λ t. IsAlarm w t)
    → IfSome o (λ t. (u : ℕ) → IsAlarm w u → t ≤ u) → IfNone o ((u : ℕ) → IsAlarm w u → ⊥)
    → IsLeast w.tick (bases_awaited (pending w)) o
told_least w (Some t) a b c = (a, b)
told_least w None a b c = c

-- what the book tells is the next alarm
pub told_alarm : (w : PlainWorld) (o : Option ℕ) → IfSome o (λ t. IsAlarm w t) → IfSome o (λ t. (u : ℕ) → IsAlarm w u → t ≤ u) → IfNone o ((u : ℕ) → IsAlarm w u → ⊥) → o ≡ next_alarm w
told_alarm w o a b c = one_least w.tick (bases_awaited (pending w)) o (next_alarm w) (told_least w o a b c) (least_is w.tick (bases_awaited (pending w)))
