-- The runs of a program, without what they have used, and with what they have printed only where that counts, as a system whose schedules are
-- searched.
use Rattle.std.specs.Prelude.{ℕ, Bool, false, List, [], ◌∷◌, ◌++◌, ◌+◌, length, map, filter, count_by, is_some, Option, Some, None, option_map, unwrap_or}
use Rattle.std.specs.List.{range_with_len, filter_map}
use Rattle.cml_value.specs.Value.{PlainFunction}
use Rattle.cml_scan.specs.World.{PlainWorld}
use Rattle.cml_scan.specs.Scan.{scan}
use Rattle.cml_schedule.specs.declared.item.Item.{Item}
use Rattle.cml_schedule.specs.declared.item.Item.TheVariants.{Turn, Meet as Commit, Exchange, Clock}
use Rattle.cml_step.specs.Terms.{Program, Term}
use Rattle.cml_hub.specs.Runs.{Run, opening, advance, next_alarm}
use Rattle.cml_hub.specs.Performed.{PlainDone}
use Rattle.cml_hub.specs.Deeds.{deed, after_deed, begotten, is_fault, origins, fault_count}
use Rattle.cml_verify.specs.Systems.{System}
use Rattle.cml_verify.specs.Verdicts.{output_if}

-- what is known of the turns so far: with which function each thread began, and how many ended at a fault
pub record Past : Type 0 where
  pub began : List PlainFunction
  pub faults : ℕ

-- what is known of the turns of a schedule
abbrev pub past : Program → List Item → Past
past p items = record { began = origins p items; faults = fault_count p items }

-- what is known once these were done too
abbrev pub more : Past → List PlainDone → Past
more a ds = record { began = a.began ++ filter_map begotten ds; faults = a.faults + count_by is_fault ds }

-- the world, the term of each thread, what is known of the turns, and what is seen of the output
pub record Core : Type 0 where
  pub world : PlainWorld
  pub terms : List Term
  pub past : Past
  pub printed : Option (List ℕ)

abbrev pub core_of : Bool → Past → Run → Core
core_of with_output a r = record { world = r.world; terms = r.terms; past = a; printed = output_if with_output r.output }

-- the run that stands so, has printed what is seen, and has used nothing
abbrev pub run_at : Core → Run
run_at c = record { world = c.world; terms = c.terms; output = unwrap_or c.printed []; used = 0 }

-- what the turn did, if the item is one
abbrev pub done_by : Program → Run → Item → List PlainDone
done_by p r item = after_deed (deed p r item) []

-- the core after an item, where it is allowed
abbrev pub core_step : Program → Bool → Core → Item → Option Core
core_step p with_output c item = option_map (core_of with_output (more c.past (done_by p (run_at c) item))) (advance p (run_at c) item)

-- whether an item can come
abbrev pub can : Program → Run → Item → Bool
can p r item = is_some (advance p r item)

-- a turn of each thread
abbrev pub turns : PlainWorld → List Item
turns w = map (λ t. Turn (record { 0 = t })) (range_with_len 0 (length w.threads))

-- a move of the time to the alarm, if there is one
abbrev pub alarm_of : Option ℕ → List Item
alarm_of None = []
alarm_of (Some tick) = Clock tick ∷ []

-- the items among which all are that can come
abbrev pub candidates : PlainWorld → List Item
candidates w = ((turns w ++ map Commit (scan w)) ++ map Exchange (scan w)) ++ alarm_of (next_alarm w)

-- the items that can come
abbrev pub allowed : Program → Run → List Item
allowed p r = filter (can p r) (candidates r.world)

abbrev pub whose_turn : Item → Option ℕ
whose_turn (Turn t) = Some t.0
whose_turn _ = None

-- the system; no turn of it is said to be quiet
abbrev pub program_system : Program → Bool → System Core Item
program_system p with_output = record {
  start = core_of with_output (past p []) (opening p);
  step = core_step p with_output;
  allowed = λ c. allowed p (run_at c);
  owner = whose_turn;
  quiet = λ _ _. false;
}
