-- What the reports of a run are.
use Rattle.std.specs.Prelude.{ℕ, ◌≡◌, ◌+◌, ◌*◌, ◌<◌, ◌≤◌, List, [], length, map, take, Option, Some, None, option_map, slice_get}
use Rattle.cml_scan.specs.World.{PlainWorld, pending}
use Rattle.cml_scan.specs.Scan.{scan}
use Rattle.cml_schedule.specs.Reports.{PlainReport}
use Rattle.cml_schedule.specs.declared.item.Item.{Item}
use Rattle.cml_step.specs.Terms.{Program}
use Rattle.cml_hub.specs.Runs.{stands}

-- what there is to see in a world after this many items: the rows that can be taken, and the threads that wait, ascending
abbrev pub report_of : ℕ → PlainWorld → PlainReport
report_of at w = record { at = at; rows = scan w; waiting = map (λ e. e.thread) (pending w) }

-- what there was to see after this many items of a schedule
abbrev pub report_at : Program → List Item → ℕ → Option PlainReport
report_at p items at = option_map (λ r. report_of at r.world) (stands p (take at items))

-- One report after each k items, of what there was to see then. The last one may still be due.
pub record AreReportsBy (p : Program) (items : List Item) (k : ℕ) (reports : List PlainReport) : Type 0 where
  pub each : (i : ℕ) → i < length reports → slice_get reports i ≡ report_at p items (k * (i + 1))
  pub made : k * length reports ≤ length items
  pub few : length items ≤ k * (length reports + 1)

-- without a watch there are none
abbrev pub AreReports : Program → List Item → Option ℕ → List PlainReport → Type 0
AreReports p items None reports = reports ≡ []
AreReports p items (Some k) reports = AreReportsBy p items k reports

-- after this many items, with this many reports made, one is due
abbrev pub IsDue : Option ℕ → ℕ → ℕ → Type 0
IsDue None items reports = ⊥
IsDue (Some k) items reports = items ≡ k * (reports + 1)

-- the report that is due, and none where none is
abbrev pub IsDueReport : Option ℕ → ℕ → ℕ → PlainWorld → Option PlainReport → Type 0
IsDueReport watch items reports w None = IsDue watch items reports → ⊥
IsDueReport watch items reports w (Some r) = IsDue watch items reports × (r ≡ report_of items w)
