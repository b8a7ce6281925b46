-- A slice, step by step.
use Rattle.std.proofs.Common.{◌≡◌, ℕ, zero, suc, ◌+◌, ◌-◌, ◌<◌, ◌≤◌, refl, ap, sym, subst, ◌∙◌, arith}
use Rattle.cml_step.specs.declared.ask.Ask.{Ask}
use Rattle.cml_step.specs.declared.ask.Ask.TheVariants as asks_of
use Rattle.cml_step.specs.Terms.{Program, Term}
use Rattle.cml_step.specs.Asks as ask
use Rattle.cml_step.specs.Asks.{PlainAsk}
use Rattle.cml_step.specs.AskViews.{plain_ask}
use Rattle.cml_step.specs.Steps.{PlainStep, goes_on, asks, next}
use Rattle.cml_step.specs.Slices.{PlainSlice, carried, sliced, sliced_from, max_steps, GoesIn}

stops : (go : Term → PlainSlice) (n : ℕ) (a : Ask) (t : Term) → (a ≡ asks_of.Nothing → ⊥) → carried go n (plain_ask a) t ≡ record { ask = plain_ask a; end = t; steps = n }
stops go n asks_of.Nothing t h = absurd (h refl)
stops go n _ t h = refl

one_step : (p : Program) (self k n : ℕ) (t : Term) (u : PlainStep) → next p self t ≡ u →
    sliced_from p self (suc k) n t ≡ carried (λ v. sliced_from p self k (n + 1) v) (n + 1) u.ask u.term
unfolding sliced_from
one_step p self k n t u e = ap (λ d. carried (λ v. sliced_from p self k (n + 1) v) (n + 1) d.ask d.term) e

no_step : (p : Program) (self n : ℕ) (t : Term) → sliced_from p self 0 n t ≡ record { ask = ask.nothing; end = t; steps = n }
unfolding sliced_from
no_step p self n t = refl

fewer : (k n : ℕ) → n < k → k - n ≡ suc (k - (n + 1))
fewer k n h = omega (arith, h)

pub slice_on : (p : Program) (self k n : ℕ) (t u : Term) → n < k → next p self t ≡ goes_on u → sliced_from p self (k - n) n t ≡ sliced_from p self (k - (n + 1)) (n + 1) u
slice_on p self k n t u h e = ap (λ m. sliced_from p self m n t) (fewer k n h) ∙ one_step p self (k - (n + 1)) n t (goes_on u) e

pub slice_asks : (p : Program) (self k n : ℕ) (t u : Term) (a : Ask) → n < k → next p self t ≡ asks (plain_ask a) u → (a ≡ asks_of.Nothing → ⊥) →
    sliced_from p self (k - n) n t ≡ record { ask = plain_ask a; end = u; steps = n + 1 }
slice_asks p self k n t u a h e g =
    ap (λ m. sliced_from p self m n t) (fewer k n h) ∙ one_step p self (k - (n + 1)) n t (asks (plain_ask a) u) e
    ∙ stops (λ v. sliced_from p self (k - (n + 1)) (n + 1) v) (n + 1) a u g

pub slice_over : (p : Program) (self k n : ℕ) (t : Term) (a : Ask) → k ≤ n → a ≡ asks_of.Nothing → sliced_from p self (k - n) n t ≡ record { ask = plain_ask a; end = t; steps = n }
slice_over p self k n t a h g =
    let e : k - n ≡ 0 = omega (arith, h) in
    let as_asked : (b : Ask) → PlainSlice = λ b. record { ask = plain_ask b; end = t; steps = n } in
    ap (λ m. sliced_from p self m n t) e ∙ no_step p self n t ∙ ap as_asked (sym g)

-- one more step goes on
pub goes_more : (p : Program) (self n : ℕ) (t u v : Term) → GoesIn p self n t u → next p self u ≡ goes_on v → GoesIn p self (n + 1) t v
goes_more p self n t u v before one = subst (λ m. GoesIn p self m t v) (plus_one n) (further n t before)
  where
    plus_one : (n : ℕ) → suc n ≡ n + 1
    plus_one n = omega arith

    further : (n : ℕ) (t : Term) → GoesIn p self n t u → GoesIn p self (suc n) t v
    further zero t e = (v, ap (λ x. next p self x) e ∙ one, refl)
    further (suc n) t steps = (steps.0, steps.1, further n steps.0 steps.2)

-- a slice that begins with this many steps which go on is the rest of it after them
goes_sliced : (p : Program) (self n left steps : ℕ) (t u : Term) → GoesIn p self n t u → sliced_from p self (n + left) steps t ≡ sliced_from p self left (steps + n) u
goes_sliced p self zero left steps t u e = ap (λ k. sliced_from p self k steps t) (whole left) ∙ ap (λ k. sliced_from p self left k t) (same steps) ∙ ap (λ v. sliced_from p self left (steps + 0) v) e
  where
    whole : (n : ℕ) → 0 + n ≡ n
    whole n = omega arith

    same : (n : ℕ) → n ≡ n + 0
    same n = omega arith
goes_sliced p self (suc n) left steps t u goes =
    ap (λ k. sliced_from p self k steps t) (first n left) ∙ one_step p self (n + left) steps t (goes_on goes.0) goes.1
    ∙ goes_sliced p self n left (steps + 1) goes.0 u goes.2 ∙ ap (λ k. sliced_from p self left k u) (later steps n)
  where
    first : (n left : ℕ) → suc n + left ≡ suc (n + left)
    first n left = omega arith

    later : (a b : ℕ) → a + 1 + b ≡ a + suc b
    later a b = omega arith

-- a slice in which this many steps went on has the rest before it
pub slice_skips : (p : Program) (self k n m : ℕ) (t u : Term) → GoesIn p self n t u → n ≤ k - m → sliced_from p self (k - m) m t ≡ sliced_from p self (k - (m + n)) (m + n) u
slice_skips p self k n m t u goes within = ap (λ j. sliced_from p self j m t) (rest k n m within) ∙ goes_sliced p self n (k - (m + n)) m t u goes
  where
    rest : (k n m : ℕ) → n ≤ k - m → k - m ≡ n + (k - (m + n))
    rest k n m h = omega (arith, h)

-- a slice takes the steps before it and more, at most as many as are left
abbrev Counts : ℕ → ℕ → ℕ → Type 0
Counts least most steps = (least ≤ steps) × (steps ≤ most)

carried_counts : (go : Term → PlainSlice) (least most n : ℕ) (a : PlainAsk) (t : Term) → Counts least most n
    → ((u : Term) → Counts least most (go u).steps) → Counts least most (carried go n a t).steps
carried_counts go least most n ask.nothing t h g = g t
carried_counts go least most n _ t h g = h

counts_on : (p : Program) (self left n : ℕ) (t : Term) → Counts n (n + left) (sliced_from p self left n t).steps
unfolding sliced_from
counts_on p self zero n t = (omega arith, omega arith)
counts_on p self (suc left) n t =
    carried_counts (λ u. sliced_from p self left (n + 1) u) n (n + suc left) (n + 1) (next p self t).ask (next p self t).term (omega arith, omega arith)
    (λ u. let r = counts_on p self left (n + 1) u in (omega (arith, r.0), omega (arith, r.1)))

-- where a step is left, one is taken
pub slice_counts : (p : Program) (self left n : ℕ) (t : Term) → Counts (n + 1) (n + suc left) (sliced_from p self (suc left) n t).steps
unfolding sliced_from
slice_counts p self left n t =
    carried_counts (λ u. sliced_from p self left (n + 1) u) (n + 1) (n + suc left) (n + 1) (next p self t).ask (next p self t).term (omega arith, omega arith)
    (λ u. let r = counts_on p self left (n + 1) u in (r.0, omega (arith, r.1)))

-- the same slice, where this many steps more were taken before
abbrev pub later : ℕ → PlainSlice → PlainSlice
later n s = record { ask = s.ask; end = s.end; steps = n + s.steps }

carried_later : (go past : Term → PlainSlice) (n k : ℕ) (a : PlainAsk) (t : Term) → ((u : Term) → past u ≡ later n (go u)) → carried past (n + k) a t ≡ later n (carried go k a t)
carried_later go past n k ask.nothing t h = h t
carried_later go past n k _ t h = refl

slice_later : (p : Program) (self left n m : ℕ) (t : Term) → sliced_from p self left (n + m) t ≡ later n (sliced_from p self left m t)
unfolding sliced_from
slice_later p self zero n m t = refl
slice_later p self (suc left) n m t =
    ap (λ k. carried (λ u. sliced_from p self left k u) k (next p self t).ask (next p self t).term) (moved n m)
    ∙ carried_later (λ u. sliced_from p self left (m + 1) u) (λ u. sliced_from p self left (n + (m + 1)) u) n (m + 1) (next p self t).ask (next p self t).term
    (λ u. slice_later p self left n (m + 1) u)
  where
    moved : (a b : ℕ) → a + b + 1 ≡ a + (b + 1)
    moved a b = omega arith

plus_none : (n : ℕ) → n ≡ n + 0
plus_none n = omega arith

none_plus : (n : ℕ) → 0 + n ≡ n
none_plus n = omega arith

none_less : (n : ℕ) → n ≡ n - 0
none_less n = omega arith

-- a slice that begins with this many steps which go on, wherever it ends
pub slice_goes : (p : Program) (self most n : ℕ) (t u : Term) → GoesIn p self n t u → n ≤ most → sliced_from p self most 0 t ≡ sliced_from p self (most - n) n u
slice_goes p self most n t u goes within =
    ap (λ k. sliced_from p self k 0 t) (none_less most)
    ∙ slice_skips p self most n 0 t u goes (omega (arith, within))
    ∙ ap (λ m. sliced_from p self (most - m) m u) (none_plus n)

-- the same, where the step after them asks
pub slice_then_asks : (p : Program) (self most n : ℕ) (t u v : Term) (a : Ask) → GoesIn p self n t u → n < most → next p self u ≡ asks (plain_ask a) v → (a ≡ asks_of.Nothing → ⊥) →
    sliced_from p self most 0 t ≡ record { ask = plain_ask a; end = v; steps = n + 1 }
slice_then_asks p self most n t u v a goes lower step something = slice_goes p self most n t u goes (omega (arith, lower)) ∙ slice_asks p self most n u v a lower step something

-- no step at all
pub goes_none : (p : Program) (self n : ℕ) (t u : Term) → n ≡ 0 → GoesIn p self n t u → t ≡ u
goes_none p self n t u none goes = subst (λ k. GoesIn p self k t u) none goes

-- a slice whose first step asks, or goes on
pub slice_first_asks : (p : Program) (self most : ℕ) (t u : Term) (a : Ask) → 0 < most → next p self t ≡ asks (plain_ask a) u → (a ≡ asks_of.Nothing → ⊥) →
    sliced_from p self most 0 t ≡ record { ask = plain_ask a; end = u; steps = 1 }
slice_first_asks p self most t u a some step something = ap (λ k. sliced_from p self k 0 t) (none_less most) ∙ slice_asks p self most 0 t u a some step something

pub slice_first_on : (p : Program) (self most : ℕ) (t u : Term) (a : Ask) → 0 < most → next p self t ≡ asks (plain_ask a) u → a ≡ asks_of.Nothing →
    sliced_from p self most 0 t ≡ sliced_from p self (most - 1) 1 u
slice_first_on p self most t u a some step none =
    ap (λ k. sliced_from p self k 0 t) (none_less most) ∙ slice_on p self most 0 t u some (subst (λ (b : Ask). next p self t ≡ asks (plain_ask b) u) none step)

-- what a slice comes to, where this many steps were taken before
pub slice_after : (p : Program) (self left n k : ℕ) (t e : Term) (a : PlainAsk) → sliced_from p self left 0 t ≡ record { ask = a; end = e; steps = k } →
    sliced_from p self left n t ≡ record { ask = a; end = e; steps = n + k }
slice_after p self left n k t e a rest = ap (λ m. sliced_from p self left m t) (plus_none n) ∙ slice_later p self left n 0 t ∙ ap (later n) rest

-- a slice that begins with this many steps which go on, and what is left of it comes to this
pub slice_rest : (p : Program) (self n k : ℕ) (t u e : Term) (a : PlainAsk) → GoesIn p self n t u → n ≤ max_steps → sliced_from p self (1000 - n) 0 u ≡ record { ask = a; end = e; steps = k } →
    sliced p self t ≡ record { ask = a; end = e; steps = n + k }
slice_rest p self n k t u e a goes within rest = slice_goes p self 1000 n t u goes within ∙ slice_after p self (1000 - n) n k u e a rest

-- the same steps, where so many were taken before
pub slice_moves : (p : Program) (self most n m : ℕ) (t u : Term) → sliced_from p self (most - n) 0 t ≡ sliced_from p self (most - n - m) m u →
    sliced_from p self (most - n) n t ≡ sliced_from p self (most - (n + m)) (n + m) u
slice_moves p self most n m t u rest =
    ap (λ k. sliced_from p self (most - n) k t) (plus_none n) ∙ slice_later p self (most - n) n 0 t ∙ ap (later n) rest
    ∙ sym (slice_later p self (most - n - m) n m u) ∙ ap (λ k. sliced_from p self k (n + m) u) (fewer_left most n m)
  where
    fewer_left : (most n m : ℕ) → most - n - m ≡ most - (n + m)
    fewer_left most n m = omega arith

-- a slice takes no more steps than are left
pub slice_within : (p : Program) (self left k : ℕ) (t e : Term) (a : PlainAsk) → sliced_from p self left 0 t ≡ record { ask = a; end = e; steps = k } → k ≤ left
slice_within p self left k t e a is = let most = (counts_on p self left 0 t).1 in let same = ap (λ s. s.steps) is in omega (arith, most, same)
