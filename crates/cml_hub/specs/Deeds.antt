-- What the turns of a schedule did: with which function each thread began, and how many threads ended at a fault.
use Rattle.std.specs.Prelude.{◌≡◌, ℕ, Bool, true, false, List, [], ◌∷◌, count_by, Option, Some, None, option_map, option_and_then, slice_get}
use Rattle.std.specs.List.{filter_map}
use Rattle.cml_value.specs.Value.{PlainFunction, function, no_values}
use Rattle.cml_step.specs.Terms.{Program}
use Rattle.cml_step.specs.Slices.{sliced}
use Rattle.cml_step.specs.Asks as ask
use Rattle.cml_step.specs.Asks.{PlainAsk}
use Rattle.cml_schedule.specs.declared.item.Item.{Item}
use Rattle.cml_schedule.specs.declared.item.Item.TheVariants.{Turn}
use Rattle.cml_hub.specs.declared.done.Done.{Done}
use Rattle.cml_hub.specs.declared.done.Done.TheVariants as done_of
use Rattle.cml_hub.specs.Performed.{PlainDone, spawns, fails, performed}
use Rattle.cml_hub.specs.Runs.{Run, main_of, opening, advance}

-- what the ask of a turn does in this run; no other item asks
abbrev pub deed : Program → Run → Item → Option PlainDone
deed p r (Turn t) = option_map (λ term. (performed r.world t.0 (sliced p t.0 term).ask).1) (slice_get r.terms t.0)
deed p r item = None

-- these, after that one, if there is one
abbrev pub after_deed : Option PlainDone → List PlainDone → List PlainDone
after_deed None deeds = deeds
after_deed (Some d) deeds = d ∷ deeds

-- what the asks of all turns do from this run on, in order
abbrev pub deeds_from : Program → Option Run → List Item → List PlainDone
deeds_from p r [] = []
deeds_from p r (item ∷ items) = after_deed (option_and_then (λ now. deed p now item) r) (deeds_from p (option_and_then (λ now. advance p now item) r) items)

-- what the asks of all turns of a schedule do
abbrev pub deeds : Program → List Item → List PlainDone
deeds p items = deeds_from p (Some (opening p)) items

-- the function of the thread that begins by it, if one does
abbrev pub begotten : PlainDone → Option PlainFunction
begotten (spawns n f) = Some f
begotten d = None

-- The function with which each thread began, by the thread's number: the first began with `main`, and each other with what the turn by which
-- it began asked for.
abbrev pub origins : Program → List Item → List PlainFunction
origins p items = function (main_of p) no_values ∷ filter_map begotten (deeds p items)

-- a thread ended at a fault
abbrev pub is_fault : PlainDone → Bool
is_fault (fails name) = true
is_fault d = false

-- how many threads ended at a fault
abbrev pub fault_count : Program → List Item → ℕ
fault_count p items = count_by is_fault (deeds p items)

-- these are the origins, and this is the number of faults
pub record IsKnown (p : Program) (items : List Item) (began : List PlainFunction) (faults : ℕ) : Type 0 where
  pub began_so : began ≡ origins p items
  pub counted : faults ≡ fault_count p items

-- a thread that begins was asked for
abbrev pub WasAsked : Done → PlainAsk → Type 0
WasAsked (done_of.Spawns m) (ask.spawn f) = Unit {0}
WasAsked (done_of.Spawns m) a = ⊥
WasAsked d a = Unit {0}
