-- The run of a program by a seed.
use Rattle.std.specs.Prelude.{ℕ, ◌≡◌, List}
use Rattle.rand_pcg.specs.Lcg.{Lcg}
use Rattle.cml_check.specs.Syntax.{PlainItem}
use Rattle.cml_step.specs.Calls.{text_of}
use Rattle.cml_step.specs.Terms.{Program}
use Rattle.cml_hub.specs.Choices.{seeded}
use Rattle.cml_hub.specs.Kept.{Kept}
use Rattle.cml_hub.specs.Playing.{run_by, playing, PlaysOut}
use Rattle.cml_explore.specs.Generators.{by_generator}
use Rattle.cml_explore.specs.declared.seed.order.Order.{Order}
use Rattle.cml_explore.specs.declared.seed.order.Order.TheVariants as orders
use Rattle.cml_explore.specs.Draws.{run_drawn, drawn_at, RunsDrawn}
use Rattle.cml_explore.specs.Lots.{by_lot}
use Rattle.cml_explore.specs.Priorities.{PlainPriorities, begun_priorities, by_priority, points_span, run_by_priority}

-- The hub stands where the run ends that the generator of this state makes in this order: threads that are ready have their turns one after another,
-- and rows alone are picked; or it is drawn by lot what happens next; or priorities say it, whose points are drawn within this span.
abbrev pub EndsWithin : Program → ℕ → Order → ℕ → Lcg → Kept → Type 0
EndsWithin p budget orders.Queue span state h = (last : Lcg) × (playing h last ≡ run_by p budget by_generator state)
EndsWithin p budget orders.Lot span state h = (last : Lcg) × (drawn_at h last ≡ run_drawn (by_lot by_generator) p budget state)
EndsWithin p budget (orders.Priority depth) span state h = (last : PlainPriorities) × (drawn_at h last ≡ run_by_priority p budget depth span state)

-- The hub stands where the run ends that the generator of this state makes in this order.
abbrev pub EndsAt : Program → ℕ → Order → Lcg → Kept → Type 0
EndsAt p budget order state h = EndsWithin p budget order (points_span p budget state) state h

-- The hub stands where the run of the program by this seed ends, in this order.
pub record IsSeedRun (p : List (PlainItem ℕ)) (budget : ℕ) (order : Order) (seed : ℕ) (h : Kept) : Type 0 where
  pub program : h.course.program ≡ p
  pub budget_is : h.budget ≡ budget
  pub plays : EndsAt (text_of p) budget order (seeded seed) h

-- ---- what private functions say

-- the hub has gone on to its end so
abbrev pub PlaysTo : Order → ℕ → Lcg → Kept → Kept → Type 0
PlaysTo orders.Queue span state begun h = (last : Lcg) × PlaysOut by_generator begun state h last
PlaysTo orders.Lot span state begun h = (last : Lcg) × RunsDrawn (by_lot by_generator) begun state h last
PlaysTo (orders.Priority depth) span state begun h = (last : PlainPriorities) × RunsDrawn by_priority begun (begun_priorities depth span state) h last

-- the hub has run to its end by this seed
pub record RunsOut (order : Order) (span seed : ℕ) (begun h : Kept) : Type 0 where
  pub program : h.course.program ≡ begun.course.program
  pub budget_is : h.budget ≡ begun.budget
  pub plays : PlaysTo order span (seeded seed) begun h

-- it stands where the run by this seed ends whose points are drawn within this span
pub record IsRunWithin (p : List (PlainItem ℕ)) (budget : ℕ) (order : Order) (span seed : ℕ) (h : Kept) : Type 0 where
  pub program : h.course.program ≡ p
  pub budget_is : h.budget ≡ budget
  pub plays : EndsWithin (text_of p) budget order span (seeded seed) h

-- a run whose points are drawn within this span is the run by this seed
abbrev pub IsSpan : List (PlainItem ℕ) → ℕ → Order → ℕ → ℕ → Type 0
IsSpan p budget order seed span = (h : Kept) → IsRunWithin p budget order span seed h → IsSeedRun p budget order seed h
