-- What a schedule gives: what is printed, and how each thread ends.
use Rattle.std.specs.Prelude.{◌≡◌, ℕ, suc, Bool, if◌then◌else◌, List, [], ◌∷◌, Some, is_some}
use Rattle.cml_check.specs.Syntax.{PlainItem}
use Rattle.cml_facts.specs.Failures.{failures}
use Rattle.cml_facts.specs.Falls.{failure_of_thread}
use Rattle.cml_hub.specs.Runs.{Run, stands}
use Rattle.cml_scan.specs.World.{PlainThread, running, pending_on, ended}
use Rattle.cml_schedule.specs.declared.item.Item.{Item}
use Rattle.cml_step.specs.Calls.{text_of}
use Rattle.cml_step.specs.Terms.{Program}
use Rattle.cml_explore.specs.declared.outcome.Outcome.{Outcome}
use Rattle.cml_explore.specs.declared.outcome.ThreadEnd.{ThreadEnd}
use Rattle.cml_explore.specs.declared.outcome.ThreadEnd.TheVariants.{Ended, Waits, Fault}

-- what was printed, with the lines of faults, and how each thread is left, by number
pub record PlainOutcome : Type 0 where
  pub output : List ℕ
  pub threads : List ThreadEnd

-- the thread of this number ended at a fault by the schedule
abbrev pub has_fallen : Program → List Item → ℕ → Bool
has_fallen p schedule t = is_some (failure_of_thread (failures p schedule) t)

-- How a thread is left that stands so, where nothing is left to do: it waits, or it has ended, at a fault or not. None runs there.
abbrev pub thread_end : Bool → PlainThread → ThreadEnd
thread_end fell (pending_on g) = Waits
thread_end fell ended = if fell then Fault else Ended
thread_end fell running = if fell then Fault else Ended

-- those of these threads, of which the first has this number
abbrev pub ends_from : (ℕ → Bool) → ℕ → List PlainThread → List ThreadEnd
ends_from fell t [] = []
ends_from fell t (thread ∷ threads) = thread_end (fell t) thread ∷ ends_from fell (suc t) threads

-- The schedule leads to a run, in which this was printed and the threads are left so.
pub record GivesOutcome (p : List (PlainItem ℕ)) (schedule : List Item) (o : PlainOutcome) : Type 0 where
  pub run : Run
  pub leads : stands (text_of p) schedule ≡ Some run
  pub output_is : o.output ≡ run.output
  pub threads_are : o.threads ≡ ends_from (has_fallen (text_of p) schedule) 0 run.world.threads

-- ---- what private functions say

abbrev pub plain_outcome : Outcome → PlainOutcome
plain_outcome o = record { output = o.output.items; threads = o.threads.items }
