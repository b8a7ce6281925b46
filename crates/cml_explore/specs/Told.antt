-- What is told of many runs.
use Rattle.std.specs.Prelude.{◌≡◌, ℕ, ◌+◌, ◌-◌, ◌&&◌, nat_le, if◌then◌else◌, Bool, true, false, List, map, length, count_by, Option, Some, None, slice_get, [], ◌∷◌}
use Rattle.std.specs.List.{All}
use Rattle.cml_check.specs.Syntax.{PlainItem}
use Rattle.cml_step.specs.Calls.{text_of}
use Rattle.cml_hub.specs.Courses.{PlainCourse, run_of}
use Rattle.cml_hub.specs.Deeds.{fault_count, origins}
use Rattle.cml_hub.specs.Kept.{Kept}
use Rattle.cml_hub.specs.Runs.{ending}
use Rattle.cml_phrase.specs.declared.place.Place.{Place}
use Rattle.cml_facts.specs.Stuck.{is_server}
use Rattle.cml_facts.specs.Waits.{who_is}
use Rattle.cml_facts.specs.declared.ending.awaited.Named.{Named}
use Rattle.cml_facts.specs.declared.ending.standing.Spot.{Spot}
use Rattle.cml_facts.specs.declared.ending.left.Stands.TheVariants as standing
use Rattle.cml_facts.specs.Falls.{PlainFall, AreFalls}
use Rattle.cml_judge.specs.Judgements.{IsJudgedAt, are_all_kept}
use Rattle.cml_judge.specs.Spots.{AreBreaksFrom}
use Rattle.cml_judge.specs.declared.breaks.Break.{Break}
use Rattle.cml_judge.specs.declared.spot.Spot as printed
use Rattle.cml_explore.specs.SeedRuns.{IsSeedRun}
use Rattle.cml_explore.specs.declared.explored.Asked.{Asked}
use Rattle.cml_explore.specs.declared.told.BreakTold.{BreakTold}
use Rattle.cml_explore.specs.declared.told.ClassTold.{ClassTold}
use Rattle.cml_explore.specs.declared.told.RunTold.{RunTold}
use Rattle.cml_explore.specs.declared.told.RunsTold.{RunsTold}
use Rattle.cml_explore.specs.declared.told.ThreadLeft.{ThreadLeft}
use Rattle.cml_explore.specs.declared.told.ThreadState.{ThreadState}
use Rattle.cml_explore.specs.declared.told.ThreadState.TheVariants as states
use Rattle.cml_explore.specs.Classes.{PlainClass}
use Rattle.cml_explore.specs.Explored.{PlainExplored}
use Rattle.cml_explore.specs.Finishes.{fate_of, is_good}
use Rattle.cml_explore.specs.Orders.{seed_order}
use Rattle.cml_explore.specs.Ranks.{AreInRank}
use Rattle.cml_explore.specs.Stops.{IsLastStop}
use Rattle.cml_explore.specs.Sights.{sight_of, AreSpotsBelow, AreSpotsToTell, threads_told}

-- The threads that are left in a run, or ended at a fault in it, by number. A call that waits stands at a statement that has it wait; where there
-- are two such, either may be told.
pub record AreThreadsTold (places : List (List Place)) (c : PlainCourse) (threads : List ThreadLeft) : Type 0 where
  pub falls : ℕ → Option PlainFall
  pub are : AreFalls c.program c.items falls
  pub spots : List (Option Spot)
  pub stands : AreSpotsToTell c falls spots
  pub below : List (Option Spot)
  pub stood : AreSpotsBelow c falls below
  pub threads_are : threads ≡ threads_told (sight_of places c falls spots below) 0 c.world.threads

abbrev pub is_wait : ThreadState → Bool
is_wait (states.Stands (standing.Waits awaited)) = true
is_wait (states.Stands standing.Runs) = false
is_wait (states.AtFault reason) = false

abbrev pub is_run : ThreadState → Bool
is_run (states.Stands (standing.Waits awaited)) = false
is_run (states.Stands standing.Runs) = true
is_run (states.AtFault reason) = false

-- whether a thread that is left so may wait, where these are the functions of servers: it does, and began with one of them
abbrev pub may_wait : List ℕ → ThreadLeft → Bool
may_wait servers left = is_wait left.state && is_server servers left.thread.began

-- What is told of the run of a hub: how it ended, how many threads wait, run and ended at a fault, and these threads.
pub record IsRunTold (places : List (List Place)) (h : Kept) (told : RunTold) : Type 0 where
  pub end_is : told.end ≡ ending h.budget (run_of h.course)
  pub threads_are : AreThreadsTold places h.course told.threads.items
  pub waits_are : told.waits ≡ count_by (λ t. is_wait t.state) told.threads.items
  pub runs_are : told.runs ≡ count_by (λ t. is_run t.state) told.threads.items
  pub faults_are : told.faults ≡ fault_count (text_of h.course.program) h.course.items

-- the thread by a turn of which a property was broken
abbrev pub IsTeller : Kept → Option printed.Spot → Option Named → Type 0
IsTeller h None who = who ≡ None
IsTeller h (Some spot) who = who ≡ Some (who_is (origins (text_of h.course.program) h.course.items) spot.thread.0)

-- what is told of a property that the run of a hub breaks, and whose turn it was
pub record IsBreakTold (h : Kept) (one : Break) (told : BreakTold) : Type 0 where
  pub one_is : told.one ≡ one
  pub teller : IsTeller h one.spot told.who

abbrev pub AreEachBreakTold : Kept → List Break → List BreakTold → Type 0
AreEachBreakTold h [] [] = Unit {0}
AreEachBreakTold h (one ∷ ones) (told ∷ tolds) = IsBreakTold h one told × AreEachBreakTold h ones tolds
AreEachBreakTold h _ _ = ⊥

-- of the properties that are wanted, those that the run of a hub breaks, and whether it ended well
pub record IsJudgementTold (asked : Asked) (h : Kept) (well : Bool) (told : List BreakTold) : Type 0 where
  pub judged : List (Option ℕ)
  pub judged_so : IsJudgedAt asked.wanted h judged
  pub well_is : well ≡ is_good (fate_of asked.servers.now h (are_all_kept judged))
  pub breaks : List Break
  pub breaks_are : AreBreaksFrom h 0 judged breaks
  pub told_are : AreEachBreakTold h breaks told

-- what is told of the run of a program by a seed, whether it ended well, and what it breaks
abbrev pub IsSeedTold : List (List Place) → List (PlainItem ℕ) → Asked → ℕ → Bool → List BreakTold → RunTold → Type 0
IsSeedTold places p asked seed well breaks told =
    (h : Kept) × IsSeedRun p asked.budget (seed_order asked.orders seed) seed h × IsJudgementTold asked h well breaks × IsRunTold places h told

-- What is told of one of the classes: what is kept of it, and what is told of its first run.
pub record IsClassTold (places : List (List Place)) (p : List (PlainItem ℕ)) (asked : Asked) (classes : List PlainClass) (told : ClassTold) : Type 0 where
  pub class : PlainClass
  pub there : slice_get classes told.number ≡ Some class
  pub runs_are : told.runs ≡ class.summary.runs
  pub outputs_are : told.outputs ≡ length class.summary.outputs
  pub first_is : told.first ≡ class.summary.first
  pub items_are : told.items ≡ class.summary.items
  pub order_is : told.order ≡ seed_order asked.orders told.first
  pub run_is : IsSeedTold places p asked told.first told.well told.breaks.items told.run

-- What is told of the classes: of each, by size.
pub record AreClassesTold (places : List (List Place)) (p : List (PlainItem ℕ)) (asked : Asked) (classes : List PlainClass) (told : List ClassTold) : Type 0 where
  pub ranked : AreInRank classes (map (λ c. c.number) told)
  pub each : All (IsClassTold places p asked classes) told

-- the seed of the last of so many runs, where there are more than one
abbrev pub last_seed : ℕ → ℕ → Option ℕ
last_seed first runs = if nat_le runs 1 then None else Some (first + (runs - 1))

-- What is told of the runs that were asked for, of which these were made: how many there are, and were asked for; the functions of servers; at which
-- runs to stop, and whether the last is one; by which seeds, in which orders, and their classes.
pub record IsToldOfRuns (places : List (List Place)) (p : List (PlainItem ℕ)) (asked : Asked) (made : PlainExplored) (told : RunsTold) : Type 0 where
  pub runs_are : told.runs ≡ made.runs
  pub asked_are : told.asked ≡ asked.runs
  pub servers_are : told.servers.items ≡ asked.servers.now
  pub until_are : told.until.items ≡ asked.until.now
  pub stop_is : IsLastStop p asked made.runs told.stop
  pub first_is : told.first ≡ asked.first
  pub last_is : told.last ≡ last_seed asked.first made.runs
  pub orders_are : told.orders ≡ asked.orders
  pub classes_are : AreClassesTold places p asked made.classes told.classes.items
