-- Runs of a program by one seed after another.
use Rattle.std.specs.Prelude.{ℕ, ◌≡◌, ◌≤◌, ◌<◌, ◌+◌, ◌⊎◌, Bool, true, false, ◌&&◌, List, [], ◌∷◌, ◌++◌, map, length}
use Rattle.std.specs.List.{list_any, list_all}
use Rattle.cml_check.specs.Syntax.{PlainItem}
use Rattle.cml_explore.specs.declared.explored.Asked.{Asked}
use Rattle.cml_explore.specs.declared.explored.Until.{Until}
use Rattle.cml_hub.specs.Kept.{Kept}
use Rattle.cml_explore.specs.SeedRuns.{IsSeedRun}
use Rattle.cml_explore.specs.Orders.{seed_order}
use Rattle.cml_explore.specs.Classes.{PlainClass, classed, classes_of}
use Rattle.cml_explore.specs.Finishes.{PlainEnded, is_well, stops, EachEnds}

-- the classes of runs, how many runs there were, and whether all of them ended well
pub record PlainExplored : Type 0 where
  pub classes : List PlainClass
  pub runs : ℕ
  pub well : Bool

-- the classes of these runs, of which the first is by this seed
abbrev pub gathered : ℕ → List PlainEnded → PlainExplored
gathered first ends = record {
  classes = classes_of first (map (λ e. e.finish) ends);
  runs = length ends;
  well = list_all is_well ends;
}

-- These are enough runs: as many as were asked for, none of them one at which to stop; or all up to the first at which to stop.
abbrev pub AreEnough : List Until → ℕ → List PlainEnded → Type 0
AreEnough until runs ends =
    ((length ends ≡ runs) × (list_any (stops until) ends ≡ false))
    ⊎ ((before : List PlainEnded) × (last : PlainEnded) × (ends ≡ before ++ last ∷ []) × (length ends ≤ runs)
    × (list_any (stops until) before ≡ false) × (stops until last ≡ true))

-- What was asked for was done: these are the classes of the runs that the seeds define, one after another.
pub record IsExplored (p : List (PlainItem ℕ)) (asked : Asked) (made : PlainExplored) : Type 0 where
  pub ends : List PlainEnded
  pub each : EachEnds p asked.budget asked.orders asked.servers.now asked.wanted asked.first ends
  pub enough : AreEnough asked.until.now asked.runs ends
  pub gathered_so : made ≡ gathered asked.first ends

-- the first of the runs that are asked for prints this
abbrev pub IsFirstOutput : List (PlainItem ℕ) → Asked → List ℕ → Type 0
IsFirstOutput p asked output =
    (h : Kept) × IsSeedRun p asked.budget (seed_order asked.orders asked.first) asked.first h × (output ≡ h.course.output)

-- So far these are the classes of the runs that the first seeds define, none of which is one at which to stop.
pub record SoFar (p : List (PlainItem ℕ)) (asked : Asked) (made : PlainExplored) : Type 0 where
  pub ends : List PlainEnded
  pub each : EachEnds p asked.budget asked.orders asked.servers.now asked.wanted asked.first ends
  pub none : list_any (stops asked.until.now) ends ≡ false
  pub gathered_so : made ≡ gathered asked.first ends

-- One run more was made: it was the last, and what was asked for was done; or there are more to make.
abbrev pub HasMade : List (PlainItem ℕ) → Asked → Bool → PlainExplored → Type 0
HasMade p asked true made = IsExplored p asked made
HasMade p asked false made = SoFar p asked made × (made.runs < asked.runs)

-- ---- what private functions say

-- no runs
abbrev pub nothing_made : PlainExplored
nothing_made = record { classes = []; runs = 0; well = true }

-- one run more, by this seed
abbrev pub with_ended : ℕ → PlainEnded → PlainExplored → PlainExplored
with_ended seed e made = record {
  classes = classed seed e.finish made.classes;
  runs = made.runs + 1;
  well = made.well && is_well e;
}
