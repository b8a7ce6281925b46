-- The run of a program by a seed.
use Rattle.std.proofs.Common.{◌≡◌, ◌∙◌, ℕ, zero, suc, ◌+◌, ◌≤◌, ◌<◌, List, length, None, Some, ap, subst, arith}
use Rattle.std.specs.Prelude.{Result, Ok, Err, IfOk}
use Rattle.rand_pcg.specs.Lcg.{Lcg}
use Rattle.cml_check.specs.Syntax.{PlainItem}
use Rattle.cml_step.specs.Calls.{text_of}
use Rattle.cml_hub.specs.Choices.{seeded}
use Rattle.cml_hub.specs.Runs.{stands}
use Rattle.cml_hub.specs.Courses.{run_of}
use Rattle.cml_hub.specs.Kept.{Kept, IsAtStart}
use Rattle.cml_hub.specs.Playing.{Played, played, playing, called_back, run_by, PlaysOut}
use Rattle.cml_hub.proofs.Played.{begins_run}
use Rattle.cml_explore.specs.Generators.{by_generator}
use Rattle.cml_explore.specs.declared.seed.order.Order.{Order}
use Rattle.cml_explore.specs.declared.seed.order.Order.TheVariants as orders
use Rattle.cml_explore.specs.Lots.{by_lot}
use Rattle.cml_explore.specs.Priorities.{begun_priorities, by_priority, points_span}
use Rattle.cml_explore.specs.SeedRuns.{EndsWithin, PlaysTo, RunsOut, IsRunWithin, IsSeedRun, IsSpan}
use Rattle.cml_explore.proofs.DrawLemmas.{draws_from}

picked_out : (p : List (PlainItem ℕ)) (budget seed : ℕ) (begun h : Kept) (last : Lcg) → IsAtStart p budget None begun
    → stands (text_of begun.course.program) begun.course.items ≡ Some (run_of begun.course) → PlaysOut by_generator begun (seeded seed) h last
    → playing h last ≡ run_by (text_of p) budget by_generator (seeded seed)
picked_out p budget seed begun h last begins leads plays =
    let at = begins_run begun (seeded seed) p budget None begins leads in
    let by = subst (λ (q : List (PlainItem ℕ)). playing h last ≡ played (text_of q) begun.budget by_generator begun.budget (called_back begun (seeded seed))) begins.program plays in
    let over = subst (λ (n : ℕ). playing h last ≡ played (text_of p) n by_generator n (called_back begun (seeded seed))) begins.budget_is by in
    subst (λ (g : Played Lcg). playing h last ≡ played (text_of p) budget by_generator budget g) at over

ends_within : (order : Order) (p : List (PlainItem ℕ)) (budget span seed : ℕ) (begun h : Kept) → IsAtStart p budget None begun
    → stands (text_of begun.course.program) begun.course.items ≡ Some (run_of begun.course) → PlaysTo order span (seeded seed) begun h
    → EndsWithin (text_of p) budget order span (seeded seed) h
ends_within orders.Queue p budget span seed begun h begins leads plays = (plays.0, picked_out p budget seed begun h plays.0 begins leads plays.1)
ends_within orders.Lot p budget span seed begun h begins leads plays = (plays.0, draws_from (by_lot by_generator) p budget (seeded seed) begun h plays.0 begins leads plays.1)
ends_within (orders.Priority depth) p budget span seed begun h begins leads plays =
    (plays.0, draws_from by_priority p budget (begun_priorities depth span (seeded seed)) begun h plays.0 begins leads plays.1)

-- A hub that has run to its end from the beginning of the program on stands where the run by the seed ends.
pub ran_out : (p : List (PlainItem ℕ)) (budget : ℕ) (order : Order) (span seed : ℕ) (begun h : Kept) → IsAtStart p budget None begun
    → stands (text_of begun.course.program) begun.course.items ≡ Some (run_of begun.course) → RunsOut order span seed begun h → IsRunWithin p budget order span seed h
ran_out p budget order span seed begun h begins leads ran = record {
  program = ran.program ∙ begins.program;
  budget_is = ran.budget_is ∙ begins.budget_is;
  plays = ends_within order p budget span seed begun h begins leads ran.plays;
}

-- how long the run is in which threads have their turns in order
pub queue_long : (p : List (PlainItem ℕ)) (budget span seed n : ℕ) (h : Kept)
    → IsRunWithin p budget orders.Queue span seed h → n ≡ length h.course.items → n + 1
    ≡ points_span (text_of p) budget (seeded seed)
queue_long p budget span seed n h run long =
    ap (λ k. k + 1) (long ∙ ap (λ (g : Played Lcg). length g.items) run.plays.1)

-- a span has no part in the run, where no points are drawn
pub span_queue : (p : List (PlainItem ℕ)) (budget seed span : ℕ) → IsSpan p budget orders.Queue seed span
span_queue p budget seed span = λ h run. record { program = run.program; budget_is = run.budget_is; plays = run.plays }

pub span_lot : (p : List (PlainItem ℕ)) (budget seed span : ℕ) → IsSpan p budget orders.Lot seed span
span_lot p budget seed span = λ h run. record { program = run.program; budget_is = run.budget_is; plays = run.plays }

pub span_none : (depth : ℕ) (p : List (PlainItem ℕ)) (budget seed span : ℕ) → depth ≤ 1 → IsSpan p budget (orders.Priority depth) seed span
span_none zero p budget seed span few = λ h run. record { program = run.program; budget_is = run.budget_is; plays = run.plays }
span_none (suc zero) p budget seed span few = λ h run. record { program = run.program; budget_is = run.budget_is; plays = run.plays }
span_none (suc (suc d)) p budget seed span few = absurd (omega arith)

pub span_so : {E : Type 0} (r : Result ℕ E) (p : List (PlainItem ℕ)) (budget depth seed : ℕ) → IfOk r (λ span. span ≡ points_span (text_of p) budget (seeded seed))
    → IfOk r (λ span. IsSpan p budget (orders.Priority depth) seed span)
span_so (Ok span) p budget depth seed is = λ h run. record {
  program = run.program;
  budget_is = run.budget_is;
  plays = subst (λ k. EndsWithin (text_of p) budget (orders.Priority depth) k (seeded seed) h) is run.plays;
}
span_so (Err e) p budget depth seed is = tt

-- there is room for points, where it is one more than a count
pub span_some : {E : Type 0} (r : Result ℕ E) (p : List (PlainItem ℕ)) (budget seed : ℕ) → IfOk r (λ span. span ≡ points_span (text_of p) budget (seeded seed)) → IfOk r (λ span. 0 < span)
span_some (Ok span) p budget seed is = omega (arith, is)
span_some (Err e) p budget seed is = tt

-- the run within a span that is that of the seed
pub seed_ran : {E : Type 0} (r : Result Kept E) (p : List (PlainItem ℕ)) (budget : ℕ) (order : Order) (seed span : ℕ) → IsSpan p budget order seed span
    → IfOk r (λ h. IsRunWithin p budget order span seed h) → IfOk r (λ h. IsSeedRun p budget order seed h)
seed_ran (Ok h) p budget order seed span is run = is h run
seed_ran (Err e) p budget order seed span is run = tt
