-- The numbers that commands are given lie within their bounds.
use Rattle.std.proofs.Common.{◌⊎◌, ◌+◌, ◌<◌, ◌≤◌, ◌^◌, ℕ, List, Option, Some, None, IfSome, codes, inl, inr, refl}
use Rattle.std.proofs.lemmas.Bool.{cases_lt}
use Rattle.std.specs.Prelude.{IsSomeAnd}
use Rattle.cml_hub.specs.Kept.{IsBudget, IsWatch}
use Rattle.cml_arguments.specs.Words.{IsAnswer, IsExplore, IsReplay, IsRun, IsRuns, IsStates, Names}
use Rattle.cml_arguments.specs.Words as words
use Rattle.cml_arguments.specs.declared.Answer.TheVariants as answer
use Rattle.cml_arguments.specs.declared.ExploreOptions.{ExploreOptions}
use Rattle.cml_arguments.specs.declared.ReplayOptions.{ReplayOptions}
use Rattle.cml_arguments.specs.declared.RunOptions.{RunOptions}
use Rattle.cml_arguments.specs.declared.VerifyOptions.{VerifyOptions}
use Rattle.cml_arguments.specs.declared.Task.{Task}
use Rattle.cml_arguments.specs.declared.Task.TheVariants.{Trace, Check, Fmt, Run, Replay, Explain, Explore, Verify, Shrink, Draw, Step}
use Rattle.cml_host.specs.Statuses.{HasCounts}
use Rattle.cml_work.specs.Works.{IsWorkerCount}

watched : (watch : Option ℕ) → IfSome watch words.IsCount → IsWatch watch
watched None within = tt
watched (Some k) within = (within.0, within.1)

some_gives : {T : Type 0} (o : Option T) (P : T → Type 0) (Q : Type 0) → ((x : T) → P x → Q) → IsSomeAnd o P → Q
some_gives None P Q from is = absurd is
some_gives (Some x) P Q from is = from x is

run_counts : (options : RunOptions) (given : _) → IsRun given options → IsWorkerCount options.workers × IsBudget options.steps × IsWatch options.watch × IfSome options.priority words.IsDepth
run_counts options given is = (
  (is.counts.0.0, is.counts.0.1),
  (is.counts.1.0, is.counts.1.1),
  watched options.watch is.counts.2,
  is.counts.3,
)

counted : (given : List (List ℕ)) (options : RunOptions) → IsAnswer given (answer.Task (Run options)) →
    IsWorkerCount options.workers × IsBudget options.steps × IsWatch options.watch × IfSome options.priority words.IsDepth
counted given options is =
    some_gives _ (λ named. Names named (Run options)) _ (λ named names. run_counts options named.1 names.1) is.0.1

replay_counts : (options : ReplayOptions) (given : _) → IsReplay given options → IsWatch options.watch
replay_counts options given is = watched options.watch is.counts

watch_counted : (given : List (List ℕ)) (options : ReplayOptions) → IsAnswer given (answer.Task (Replay options)) → IsWatch options.watch
watch_counted given options is =
    some_gives _ (λ named. Names named (Replay options)) _ (λ named names. replay_counts options named.1 names.1) is.0.1

explore_counts : (options : ExploreOptions) (given : _) → IsExplore given options → IsRuns options.runs × IsBudget options.steps
explore_counts options given is = (is.counts.0, (is.counts.1.0, is.counts.1.1))

explore_counted : (given : List (List ℕ)) (options : ExploreOptions) → IsAnswer given (answer.Task (Explore options)) → IsRuns options.runs × IsBudget options.steps
explore_counted given options is =
    some_gives _ (λ named. Names named (Explore options)) _ (λ named names. explore_counts options named.1 names.1) is.0.1

explore_depths : (options : ExploreOptions) (given : _) → IsExplore given options → IfSome options.priority words.IsDepth
explore_depths options given is = is.counts.3

explore_depth : (given : List (List ℕ)) (options : ExploreOptions) → IsAnswer given (answer.Task (Explore options)) → IfSome options.priority words.IsDepth
explore_depth given options is =
    some_gives _ (λ named. Names named (Explore options)) _ (λ named names. explore_depths options named.1 names.1) is.0.1

-- options that are not at odds in one way, or in another, are not in the other
not_other : (one other : List ℕ → Type 0) → ((told : List ℕ) → words.OrElse one other told → ⊥) → (told : List ℕ) → other told → ⊥
not_other one other none told odds = none told (inr (λ text first. none text (inl first), odds))

-- there is a seed for each run
explore_seeds : (given : List (List ℕ)) (options : ExploreOptions) → IsAnswer given (answer.Task (Explore options)) → options.seed + options.runs ≤ 2 ^ 64
explore_seeds given options is = go (cases_lt (2 ^ 64) (options.seed + options.runs))
  where
    go : (2 ^ 64 < options.seed + options.runs) ⊎ (options.seed + options.runs ≤ 2 ^ 64) → options.seed + options.runs ≤ 2 ^ 64
    go (inl past) =
        let told = codes "--runs goes past the last seed, 18446744073709551615\n" in
        absurd (not_other _ _ (not_other _ _ (not_other _ _ (not_other _ _ is.1))) told (inl (past, refl)))
    go (inr within) = within

-- the number of states lies within its bounds
states_counted : (given : List (List ℕ)) (options : VerifyOptions) → IsAnswer given (answer.Task (Verify options)) → IsStates options.states
states_counted given options is =
    some_gives _ (λ named. Names named (Verify options)) _ (λ named names. names.1.counts) is.0.1

-- those of the command that the arguments name
pub task_counted : (given : List (List ℕ)) (task : Task) → IsAnswer given (answer.Task task) → HasCounts task
task_counted given (Run options) is = counted given options is
task_counted given (Replay options) is = watch_counted given options is
task_counted given (Explore options) is =
    let counts = explore_counted given options is in
    (counts.0, counts.1, explore_depth given options is, explore_seeds given options is)
task_counted given (Verify options) is = states_counted given options is
task_counted given (Trace options) is = tt
task_counted given (Check options) is = tt
task_counted given (Fmt options) is = tt
task_counted given (Explain options) is = tt
task_counted given (Shrink options) is = tt
task_counted given (Draw options) is = tt
task_counted given (Step options) is = tt
