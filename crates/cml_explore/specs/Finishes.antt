-- How the run of a program by a seed ended.
use Rattle.std.specs.Prelude.{ℕ, suc, ◌≡◌, ◌==◌, Bool, true, false, not, ◌&&◌, List, [], ◌∷◌, ◌++◌, Option}
use Rattle.std.specs.List.{list_any}
use Rattle.sha2.specs.Sha256.{sha256}
use Rattle.cml_check.specs.Syntax.{PlainItem}
use Rattle.cml_step.specs.Calls.{text_of}
use Rattle.cml_hub.specs.declared.fault.End.{End}
use Rattle.cml_hub.specs.declared.fault.End.TheVariants as end
use Rattle.cml_hub.specs.Runs.{ending}
use Rattle.cml_hub.specs.Courses.{run_of}
use Rattle.cml_hub.specs.Deeds.{origins, fault_count}
use Rattle.cml_hub.specs.Kept.{Kept}
use Rattle.cml_facts.specs.Stuck.{is_quiet, some_held_up}
use Rattle.cml_explore.specs.declared.finish.Fate.{Fate}
use Rattle.cml_explore.specs.declared.explored.Until.{Until}
use Rattle.cml_explore.specs.declared.explored.Until.TheVariants as until
use Rattle.cml_explore.specs.declared.orders.Orders.{Orders}
use Rattle.cml_explore.specs.Orders.{seed_order}
use Rattle.cml_explore.specs.SeedRuns.{IsSeedRun}
use Rattle.cml_facts.specs.declared.fault.detail.Detail.{Detail}
use Rattle.cml_facts.specs.Details.{AreDetails}
use Rattle.cml_judge.specs.Judgements.{IsJudgedAt, break_details, are_all_kept}
use Rattle.cml_judge.specs.declared.judged.Wanted.{Wanted}
use Rattle.cml_explore.specs.Classes.{Finish}

-- the details of how the run of a hub ended, which these are, the digest of its output, and its schedule
abbrev pub finish_of : Kept → List Detail → Finish
finish_of h details = record { details = details; digest = sha256 h.course.output; items = h.course.items }

-- what is to be told of a run by itself: its end, whether a thread waits that is no server, how many threads ended at a fault, and whether it keeps
-- what is wanted
abbrev pub fate_of : List ℕ → Kept → Bool → Fate
fate_of servers h kept = record {
  end = ending h.budget (run_of h.course);
  held_up = some_held_up servers (origins (text_of h.course.program) h.course.items) 0 h.course.world.threads;
  faults = fault_count (text_of h.course.program) h.course.items;
  kept = kept;
}

-- how a run ended
pub record PlainEnded : Type 0 where
  pub finish : Finish
  pub fate : Fate

-- nothing was left to do, no thread waits but servers, none ended at a fault, and the run keeps what is wanted
abbrev pub is_good : Fate → Bool
is_good f = is_quiet f.end && not f.held_up && (f.faults == 0) && f.kept

abbrev pub is_well : PlainEnded → Bool
is_well e = is_good e.fate

abbrev pub is_used : End → Bool
is_used end.Quiet = false
is_used end.Budget = true
is_used end.Partial = false

-- the run is one at which to stop: a thread waits that is no server; moreover nothing was left to do; a thread ended at a fault; the budget is
-- used; it did not end well
abbrev pub stops_at : Until → Fate → Bool
stops_at until.Waits f = f.held_up
stops_at until.Deadlock f = f.held_up && is_quiet f.end
stops_at until.Fault f = not (f.faults == 0)
stops_at until.Budget f = is_used f.end
stops_at until.Bad f = not (is_good f)

-- one of these says so
abbrev pub stops_by : List Until → Fate → Bool
stops_by until f = list_any (λ one. stops_at one f) until

abbrev pub stops : List Until → PlainEnded → Bool
stops until e = stops_by until e.fate

-- so the run of a hub ended: its finish, with the properties that it breaks of those that are wanted, and what is to be told of it
pub record IsEndOf (servers : List ℕ) (wanted : Wanted) (h : Kept) (e : PlainEnded) : Type 0 where
  pub own : List Detail
  pub own_are : AreDetails h own
  pub judged : List (Option ℕ)
  pub judged_so : IsJudgedAt wanted h judged
  pub finish_is : e.finish ≡ finish_of h (own ++ break_details 0 judged)
  pub fate_is : e.fate ≡ fate_of servers h (are_all_kept judged)

-- the run of the program by this seed ended so
abbrev pub EndsSoBy : List (PlainItem ℕ) → ℕ → Orders → List ℕ → Wanted → ℕ → PlainEnded → Type 0
EndsSoBy p budget orders servers wanted seed e = (h : Kept) × IsSeedRun p budget (seed_order orders seed) seed h × IsEndOf servers wanted h e

-- the runs by this seed and those that follow it ended so, in turn
abbrev pub EachEnds : List (PlainItem ℕ) → ℕ → Orders → List ℕ → Wanted → ℕ → List PlainEnded → Type 0
EachEnds p budget orders servers wanted seed [] = Unit {0}
EachEnds p budget orders servers wanted seed (e ∷ es) = EndsSoBy p budget orders servers wanted seed e × EachEnds p budget orders servers wanted (suc seed) es
