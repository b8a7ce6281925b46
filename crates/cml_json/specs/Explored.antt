-- What `explore` tells, as an object.
use Rattle.std.specs.Prelude.{ℕ, Bool, true, false, not, List, [], ◌∷◌, ◌++◌, codes, map, slice_get, Option, Some, None, option_map}
use Rattle.std.specs.Fmt.{decimal}
use Rattle.std.specs.List.{list_any}
use Rattle.cml_text.specs.Forms.{PlainSexpr}
use Rattle.cml_text.specs.Lines.{line}
use Rattle.cml_properties.specs.Kinds.{kind_word}
use Rattle.cml_properties.specs.Properties.{kind_of_property}
use Rattle.cml_properties.specs.declared.property.Property.{Property}
use Rattle.cml_judge.specs.declared.spot.Spot.{Spot}
use Rattle.cml_explore.specs.declared.explored.Until.{Until}
use Rattle.cml_explore.specs.declared.explored.Until.TheVariants as until
use Rattle.cml_explore.specs.declared.orders.Orders.{Orders}
use Rattle.cml_explore.specs.declared.orders.Orders.TheVariants.{Named, Round}
use Rattle.cml_explore.specs.declared.seed.order.Order.{Order}
use Rattle.cml_explore.specs.declared.seed.order.Order.TheVariants.{Queue, Lot, Priority}
use Rattle.cml_explore.specs.declared.told.BreakTold.{BreakTold}
use Rattle.cml_explore.specs.declared.told.ClassTold.{ClassTold}
use Rattle.cml_explore.specs.declared.told.RunsTold.{RunsTold}
use Rattle.cml_explore.specs.declared.told.Stopped.{Stopped}
use Rattle.cml_json.specs.Json.{array, commas, json_string, member, object, optional, truth}
use Rattle.cml_json.specs.Runs.{named_json, run_json}

-- what decided in a run what happened next
unfoldable pub order_name : Order → List ℕ
order_name Queue = codes "picks"
order_name Lot = codes "turns"
order_name (Priority depth) = codes "priority"

unfoldable pub order_depth : Order → Option ℕ
order_depth (Priority depth) = Some depth
order_depth order = None

unfoldable pub orders_name : Orders → List ℕ
orders_name (Named order) = order_name order
orders_name Round = codes "round"

unfoldable pub orders_depth : Orders → Option ℕ
orders_depth (Named order) = order_depth order
orders_depth Round = None

-- at which runs it was to stop
unfoldable pub until_name : Until → List ℕ
until_name until.Waits = codes "waits"
until_name until.Deadlock = codes "deadlock"
until_name until.Fault = codes "fault"
until_name until.Budget = codes "budget"
until_name until.Bad = codes "bad"

unfoldable pub until_json : Until → List ℕ
until_json kind = json_string (until_name kind)

-- by which word a property begins
unfoldable pub word_json : Property → List ℕ
word_json property = json_string (kind_word (kind_of_property property))

-- of these lines so many come before the one at which a property breaks, if one was printed there
unfoldable pub lines_before : ℕ → Option Spot → Option ℕ
lines_before lines spot = option_map (λ _. lines) spot

-- a property that is broken: its number among those that are wanted, from 0; its word; how many lines were printed before the one at which it breaks, by
-- which item that was printed, and by which thread, all `null` at the end of the run
unfoldable pub break_json : List PlainSexpr → List Property → BreakTold → List ℕ
break_json forms properties b = object (member (codes "property") (decimal b.one.property)
    ∷ member (codes "word") (optional word_json (slice_get properties b.one.property))
    ∷ member (codes "lines_before") (optional decimal (lines_before b.one.line b.one.spot))
    ∷ member (codes "item") (optional decimal (option_map (λ spot. spot.item) b.one.spot))
    ∷ member (codes "thread") (optional (named_json forms) b.who) ∷ [])

-- a class of runs: whether they are good; how many; how many outputs they have; by which seed and order the first is made, and how many items it has; what it
-- breaks; and that run
unfoldable pub class_json : List PlainSexpr → List Property → List ℕ → ClassTold → List ℕ
class_json forms properties servers c = object (member (codes "good") (truth c.well)
    ∷ member (codes "runs") (decimal c.runs)
    ∷ member (codes "outputs") (decimal c.outputs)
    ∷ member (codes "seed") (decimal c.first)
    ∷ member (codes "order") (json_string (order_name c.order))
    ∷ member (codes "depth") (optional decimal (order_depth c.order))
    ∷ member (codes "items") (decimal c.items)
    ∷ member (codes "breaks") (array (map (break_json forms properties) c.breaks.items))
    ∷ member (codes "run") (run_json forms servers c.run) ∷ [])

-- the run at which it stopped
unfoldable pub stop_json : Stopped → List ℕ
stop_json s = object (member (codes "seed") (decimal s.seed)
    ∷ member (codes "order") (json_string (order_name s.order))
    ∷ member (codes "depth") (optional decimal (order_depth s.order))
    ∷ member (codes "kind") (until_json s.kind) ∷ [])

-- the verdict, where some class is bad, or none
unfoldable pub verdict_word : Bool → List ℕ
verdict_word true = codes "bad"
verdict_word false = codes "good"

-- What `explore` tells of the script of this name: how many runs were asked for, and made; by which seeds, in which order; their classes; at which runs it was
-- to stop, and at which it did; and the verdict.
unfoldable pub explore_json : List ℕ → List PlainSexpr → List Property → RunsTold → List ℕ
explore_json name forms properties told = line (object (member (codes "command") (json_string (codes "explore"))
    ∷ member (codes "script") (json_string name)
    ∷ member (codes "asked") (decimal told.asked)
    ∷ member (codes "runs") (decimal told.runs)
    ∷ member (codes "first_seed") (decimal told.first)
    ∷ member (codes "last_seed") (optional decimal told.last)
    ∷ member (codes "order") (json_string (orders_name told.orders))
    ∷ member (codes "depth") (optional decimal (orders_depth told.orders))
    ∷ member (codes "classes") (array (map (class_json forms properties told.servers.items) told.classes.items))
    ∷ member (codes "until") (array (map until_json told.until.items))
    ∷ member (codes "stopped") (optional stop_json told.stop)
    ∷ member (codes "verdict") (json_string (verdict_word (list_any (λ c. not c.well) told.classes.items))) ∷ []))

-- ---- what private functions say

-- by which seed and order the first run of a class is made, and how many items it has: members behind others
unfoldable pub first_members : ClassTold → List ℕ
first_members c = codes "," ++ commas (member (codes "seed") (decimal c.first)
    ∷ member (codes "order") (json_string (order_name c.order))
    ∷ member (codes "depth") (optional decimal (order_depth c.order))
    ∷ member (codes "items") (decimal c.items) ∷ [])

-- how many runs there are, and how they were made: the first members
unfoldable pub made_members : List ℕ → RunsTold → List ℕ
made_members name told = codes "{" ++ commas (member (codes "command") (json_string (codes "explore"))
    ∷ member (codes "script") (json_string name)
    ∷ member (codes "asked") (decimal told.asked)
    ∷ member (codes "runs") (decimal told.runs)
    ∷ member (codes "first_seed") (decimal told.first)
    ∷ member (codes "last_seed") (optional decimal told.last) ∷ [])

-- in which order, and their classes: the members behind those
unfoldable pub class_members : List PlainSexpr → List Property → RunsTold → List ℕ
class_members forms properties told = codes "," ++ commas (member (codes "order") (json_string (orders_name told.orders))
    ∷ member (codes "depth") (optional decimal (orders_depth told.orders))
    ∷ member (codes "classes") (array (map (class_json forms properties told.servers.items) told.classes.items)) ∷ [])

-- at which runs it was to stop, and at which it did: the members behind those
unfoldable pub stop_members : RunsTold → List ℕ
stop_members told = codes "," ++ commas (member (codes "until") (array (map until_json told.until.items))
    ∷ member (codes "stopped") (optional stop_json told.stop) ∷ [])

-- whether a class is good, how many runs it has, and how many outputs these have: the first members
unfoldable pub size_members : ClassTold → List ℕ
size_members c = codes "{" ++ commas (member (codes "good") (truth c.well) ∷ member (codes "runs") (decimal c.runs) ∷ member (codes "outputs") (decimal c.outputs) ∷ [])
