-- The run at which to stop.
use Rattle.std.proofs.Common.{◌≡◌, ℕ, List, ap, subst, ◌∙◌}
use Rattle.std.specs.Prelude.{Option, option_map, Result, Ok, Err, IfOk}
use Rattle.cml_check.specs.Syntax.{PlainItem}
use Rattle.cml_hub.specs.Kept.{Kept}
use Rattle.cml_judge.specs.Judgements.{IsJudgedAt, are_all_kept}
use Rattle.cml_explore.specs.SeedRuns.{IsSeedRun}
use Rattle.cml_explore.specs.declared.seed.order.Order.{Order}
use Rattle.cml_explore.specs.declared.explored.Asked.{Asked}
use Rattle.cml_explore.specs.declared.explored.Until.{Until}
use Rattle.cml_explore.specs.declared.finish.Fate.{Fate}
use Rattle.cml_explore.specs.declared.told.Stopped.{Stopped}
use Rattle.cml_explore.specs.Finishes.{fate_of}
use Rattle.cml_explore.specs.Orders.{seed_order}
use Rattle.cml_explore.specs.Stops.{IsStopAt, IsStopOf, stop_kind, stopped_by}

-- the run by a seed of a fate, if it is of a kind at which to stop
pub stopped_so : (asked : Asked) (seed : ℕ) (order : Order) (fate its : Fate) (kind : Option Until) (stop : Option Stopped)
    → order ≡ seed_order asked.orders seed → fate ≡ its → kind ≡ stop_kind asked.until.now fate → stop ≡ option_map (stopped_by seed order) kind
    → stop ≡ option_map (stopped_by seed (seed_order asked.orders seed)) (stop_kind asked.until.now its)
stopped_so asked seed order fate its kind stop by of is so =
    so ∙ (ap (λ (o : Order). option_map (stopped_by seed o) kind) by ∙ (ap (option_map (stopped_by seed (seed_order asked.orders seed))) is
    ∙ ap (λ (f : Fate). option_map (stopped_by seed (seed_order asked.orders seed)) (stop_kind asked.until.now f)) of))

-- the run of a hub by a seed, which was judged so
pub stop_so : (asked : Asked) (seed : ℕ) (h : Kept) (judged slice : List (Option ℕ)) (order : Order) (fate : Fate) (kind : Option Until) (stop : Option Stopped)
    → IsJudgedAt asked.wanted h judged → slice ≡ judged → fate ≡ fate_of asked.servers.now h (are_all_kept slice) → kind ≡ stop_kind asked.until.now fate
    → order ≡ seed_order asked.orders seed → stop ≡ option_map (stopped_by seed order) kind → IsStopOf asked seed h stop
stop_so asked seed h judged slice order fate kind stop are same of is by so = (
  judged,
  are,
  stopped_so asked seed order fate (fate_of asked.servers.now h (are_all_kept judged)) kind stop by
      (of ∙ ap (λ (js : List (Option ℕ)). fate_of asked.servers.now h (are_all_kept js)) same) is so,
)

-- the run by a seed, where this is told of its hub
pub stop_by_hub : {E : Type 0} (r : Result (Option Stopped) E) (p : List (PlainItem ℕ)) (asked : Asked) (seed : ℕ) (order : Order) (h : Kept)
    → order ≡ seed_order asked.orders seed → IsSeedRun p asked.budget order seed h → IfOk r (IsStopOf asked seed h) → IfOk r (IsStopAt p asked seed)
stop_by_hub (Ok stop) p asked seed order h by run is = (h, subst (λ (o : Order). IsSeedRun p asked.budget o seed h) by run, is)
stop_by_hub (Err e) p asked seed order h by run is = tt
