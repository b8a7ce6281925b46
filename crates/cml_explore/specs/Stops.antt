-- The run at which to stop, and which classes are saved.
use Rattle.std.specs.Prelude.{◌≡◌, ◌≤◌, ◌⊎◌, ℕ, ◌+◌, ◌-◌, ◌==◌, Bool, true, false, if◌then◌else◌, List, length, find, Option, None, option_map}
use Rattle.std.specs.Option.{option_map_or}
use Rattle.cml_check.specs.Syntax.{PlainItem}
use Rattle.cml_hub.specs.Kept.{Kept}
use Rattle.cml_judge.specs.Judgements.{IsJudgedAt, are_all_kept}
use Rattle.cml_explore.specs.SeedRuns.{IsSeedRun}
use Rattle.cml_explore.specs.declared.seed.order.Order.{Order}
use Rattle.cml_explore.specs.declared.explored.Asked.{Asked}
use Rattle.cml_explore.specs.declared.explored.Until.{Until}
use Rattle.cml_explore.specs.declared.finish.Fate.{Fate}
use Rattle.cml_explore.specs.declared.told.ClassTold.{ClassTold}
use Rattle.cml_explore.specs.declared.told.RunsTold.{RunsTold}
use Rattle.cml_explore.specs.declared.told.Stopped.{Stopped}
use Rattle.cml_explore.specs.Finishes.{fate_of, stops_at}
use Rattle.cml_explore.specs.Orders.{seed_order}

-- which of these kinds of run one of this fate is, the first of them
abbrev pub stop_kind : List Until → Fate → Option Until
stop_kind until f = find (λ one. stops_at one f) until

-- the run by this seed in this order, which is of this kind
abbrev pub stopped_by : ℕ → Order → Until → Stopped
stopped_by seed order kind = record { seed = seed; order = order; kind = kind }

-- The run of this hub, by this seed, is one at which to stop, of this kind and in this order; or it is none.
abbrev pub IsStopOf : Asked → ℕ → Kept → Option Stopped → Type 0
IsStopOf asked seed h stop =
    (judged : List (Option ℕ)) × IsJudgedAt asked.wanted h judged
    × (stop ≡ option_map (stopped_by seed (seed_order asked.orders seed)) (stop_kind asked.until.now (fate_of asked.servers.now h (are_all_kept judged))))

-- The same of the run by this seed.
abbrev pub IsStopAt : List (PlainItem ℕ) → Asked → ℕ → Option Stopped → Type 0
IsStopAt p asked seed stop = (h : Kept) × IsSeedRun p asked.budget (seed_order asked.orders seed) seed h × IsStopOf asked seed h stop

-- Where it is said at which runs to stop, this is the last of so many, if that is one; where it is not said, or there are no runs, there is none.
abbrev pub IsLastStop : List (PlainItem ℕ) → Asked → ℕ → Option Stopped → Type 0
IsLastStop p asked runs stop =
    (((length asked.until.now ≡ 0) ⊎ (runs ≡ 0)) × (stop ≡ None))
    ⊎ ((1 ≤ runs) × IsStopAt p asked (asked.first + (runs - 1)) stop)

-- whether it stopped at the first run of this class
abbrev pub is_stop : RunsTold → ClassTold → Bool
is_stop told c = option_map_or (λ stop. c.first == stop.seed) told.stop false

-- Whether a schedule of this class is saved, where some are: of each; or, where it is said at which runs to stop, of the class alone that begins
-- with the run at which it stopped.
abbrev pub is_saved : RunsTold → ClassTold → Bool
is_saved told c = if length told.until.items == 0 then true else is_stop told c
