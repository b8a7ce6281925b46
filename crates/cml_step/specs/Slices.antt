-- Slices of a thread's steps.
use Rattle.std.specs.Prelude.{◌≡◌, ℕ, zero, suc, ◌+◌}
use Rattle.cml_step.specs.Terms.{Program, Term}
use Rattle.cml_step.specs.Asks as ask
use Rattle.cml_step.specs.Asks.{PlainAsk}
use Rattle.cml_step.specs.Steps.{goes_on, next}

-- what a slice comes to: what the thread asks in the end, its term there, and the number of steps
pub record PlainSlice : Type 0 where
  pub ask : PlainAsk
  pub end : Term
  pub steps : ℕ

-- the most steps of a slice
abbrev pub max_steps : ℕ
max_steps = 1000

-- where a step asked nothing the slice goes on; else it ends with that step
abbrev pub carried : (Term → PlainSlice) → ℕ → PlainAsk → Term → PlainSlice
carried go steps ask.nothing term = go term
carried go steps what term = record { ask = what; end = term; steps = steps }

-- the steps up to the first that asks, ends or is at fault, at most `left` of them, where `steps` were taken before
unfoldable pub sliced_from : Program → ℕ → ℕ → ℕ → Term → PlainSlice
sliced_from p self zero steps term = record { ask = ask.nothing; end = term; steps = steps }
sliced_from p self (suc left) steps term =
    carried (λ t. sliced_from p self left (steps + 1) t) (steps + 1) (next p self term).ask (next p self term).term

-- a slice of the thread of this number
abbrev pub sliced : Program → ℕ → Term → PlainSlice
sliced p self term = sliced_from p self max_steps 0 term

-- the thread goes from the one term to the other in this many steps, none of which asks anything
abbrev pub GoesIn : Program → ℕ → ℕ → Term → Term → Type 0
GoesIn p self zero before after = before ≡ after
GoesIn p self (suc n) before after = (middle : Term) × (next p self before ≡ goes_on middle) × GoesIn p self n middle after
