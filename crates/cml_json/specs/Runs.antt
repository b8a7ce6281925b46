-- What is told of a run, as an object: a table of its fields for each thing that is told.
use Rattle.std.specs.Prelude.{ℕ, List, [], ◌∷◌, ◌++◌, codes, map, Option, Some, None, option_map}
use Rattle.std.specs.Fmt.{decimal}
use Rattle.std.specs.Option.{option_map_or}
use Rattle.cml_value.specs.Value.{PlainValue, PlainFunction, args_of, func_of}
use Rattle.cml_value.specs.Show.{shown}
use Rattle.cml_text.specs.Forms.{PlainSexpr}
use Rattle.cml_phrase.specs.Names.{function_name}
use Rattle.cml_phrase.specs.declared.place.Place.{Place}
use Rattle.cml_step.specs.Terms.{list_of}
use Rattle.cml_facts.specs.Waits.{PlainAwaited}
use Rattle.cml_facts.specs.declared.ending.awaited.AwaitedEvent.{AwaitedEvent}
use Rattle.cml_facts.specs.declared.ending.awaited.Named.{Named}
use Rattle.cml_facts.specs.declared.ending.left.Stands.TheVariants.{Waits, Runs}
use Rattle.cml_facts.specs.declared.fault.part.Part.{Part}
use Rattle.cml_facts.specs.declared.fault.reason.Reason.{Reason}
use Rattle.cml_explore.specs.Told.{may_wait}
use Rattle.cml_explore.specs.declared.told.RunTold.{RunTold}
use Rattle.cml_explore.specs.declared.told.ThreadLeft.{ThreadLeft}
use Rattle.cml_explore.specs.declared.told.ThreadState.{ThreadState}
use Rattle.cml_explore.specs.declared.told.ThreadState.TheVariants.{Stands, AtFault}
use Rattle.cml_json.specs.Json.{array, json_string, member, object, optional, truth}
use Rattle.cml_json.specs.Named.{ending_name, event_name, event_number, event_value, part_name, part_other, part_value, reason_name, reason_number, reason_object, reason_part, state_items, state_name}

-- a place in the text
unfoldable pub place_json : Place → List ℕ
place_json p = object (member (codes "line") (decimal p.line) ∷ member (codes "column") (decimal p.column) ∷ [])

-- a value as it is printed
unfoldable pub value_json : PlainValue → List ℕ
value_json v = json_string (shown v)

-- what a function was given
unfoldable pub given_json : Option PlainFunction → List ℕ
given_json began = array (map value_json (option_map_or (λ f. list_of (args_of f)) began []))

-- the name of a function
unfoldable pub function_json : List PlainSexpr → Option PlainFunction → List ℕ
function_json forms began = optional (λ f. json_string (function_name forms (func_of f))) began

-- a thread, with the function with which it began, and what that was given
unfoldable pub named_json : List PlainSexpr → Named → List ℕ
named_json forms n = object (member (codes "number") (decimal n.thread)
    ∷ member (codes "function") (function_json forms n.began)
    ∷ member (codes "arguments") (given_json n.began) ∷ [])

-- a base event for which a thread waits; the state of what it waits for, and how many items that holds; and the thread behind it
unfoldable pub event_json : List PlainSexpr → AwaitedEvent → List ℕ
event_json forms e = object (member (codes "event") (json_string (event_name e.base))
    ∷ member (codes "number") (optional decimal (event_number e.base))
    ∷ member (codes "value") (optional value_json (event_value e.base))
    ∷ member (codes "state") (optional json_string (state_name e.state))
    ∷ member (codes "items") (optional decimal (state_items e.state))
    ∷ member (codes "thread") (optional (named_json forms) e.behind) ∷ [])

-- what a thread waits for: the first of its base events, and how many it has
unfoldable pub awaited_json : List PlainSexpr → PlainAwaited → List ℕ
awaited_json forms a = object (member (codes "count") (decimal a.count) ∷ member (codes "events") (array (map (event_json forms) a.events)) ∷ [])

-- why a thread ended at a fault
unfoldable pub reason_json : Reason → List ℕ
reason_json r = object (member (codes "name") (json_string (reason_name r))
    ∷ member (codes "operation") (optional json_string (part_name (reason_part r)))
    ∷ member (codes "value") (optional value_json (part_value (reason_part r)))
    ∷ member (codes "other") (optional value_json (part_other (reason_part r)))
    ∷ member (codes "object") (optional json_string (reason_object r))
    ∷ member (codes "number") (optional decimal (reason_number r)) ∷ [])

-- how a thread is left
unfoldable pub left_name : ThreadState → List ℕ
left_name (Stands (Waits awaited)) = codes "waits"
left_name (Stands Runs) = codes "runs"
left_name (AtFault reason) = codes "fault"

unfoldable pub waits_for : ThreadState → Option PlainAwaited
waits_for (Stands (Waits awaited)) = Some awaited
waits_for (Stands Runs) = None
waits_for (AtFault reason) = None

unfoldable pub fault_left : ThreadState → Option Reason
fault_left (Stands stands) = None
fault_left (AtFault reason) = Some reason

-- a thread that is left, or ended at a fault, where these are the functions of servers
unfoldable pub left_json : List PlainSexpr → List ℕ → ThreadLeft → List ℕ
left_json forms servers t = object (member (codes "thread") (named_json forms t.thread)
    ∷ member (codes "place") (optional place_json t.place)
    ∷ member (codes "state") (json_string (left_name t.state))
    ∷ member (codes "waits_for") (optional (awaited_json forms) (waits_for t.state))
    ∷ member (codes "fault") (optional reason_json (fault_left t.state))
    ∷ member (codes "may_wait") (truth (may_wait servers t)) ∷ [])

-- a run: how it ended, how many threads wait, run, and ended at a fault, and these threads
unfoldable pub run_json : List PlainSexpr → List ℕ → RunTold → List ℕ
run_json forms servers r = object (member (codes "end") (json_string (ending_name r.end))
    ∷ member (codes "waits") (decimal r.waits)
    ∷ member (codes "runs") (decimal r.runs)
    ∷ member (codes "faults") (decimal r.faults)
    ∷ member (codes "threads") (array (map (left_json forms servers) r.threads.items)) ∷ [])

-- ---- what private functions say

-- the part that is at fault, and what it was given: members behind others
unfoldable pub part_members : Part → List ℕ
part_members p = codes "," ++ member (codes "operation") (optional json_string (part_name p))
    ++ (codes "," ++ member (codes "value") (optional value_json (part_value p)))
    ++ (codes "," ++ member (codes "other") (optional value_json (part_other p)))

-- the function with which a thread began, and what that was given: members behind others
unfoldable pub began_members : List PlainSexpr → Option PlainFunction → List ℕ
began_members forms began = codes "," ++ member (codes "function") (function_json forms began) ++ (codes "," ++ member (codes "arguments") (given_json began))

-- how many threads wait, run, and ended at a fault: members behind others
unfoldable pub count_members : RunTold → List ℕ
count_members r = codes "," ++ member (codes "waits") (decimal r.waits) ++ (codes "," ++ member (codes "runs") (decimal r.runs))
    ++ (codes "," ++ member (codes "faults") (decimal r.faults))
