-- The command `explore`: what is told of many runs of a script, what is shown meanwhile, and what is saved of them.
use Rattle.std.specs.Prelude.{◌≡◌, ◌⊎◌, ℕ, suc, ◌+◌, ◌*◌, ◌/◌, Bool, true, false, if◌then◌else◌, List, [], ◌∷◌, filter, map, Option, Some, None, option_map, slice_get}
use Rattle.std.specs.List.{flat_map, list_any}
use Rattle.std.specs.Fmt.{decimal}
use Rattle.std.specs.Option.{option_map_or}
use Rattle.cml_check.specs.Sizes.{size_of}
use Rattle.cml_check.specs.Syntax.{Name, PlainItem}
use Rattle.cml_explore.specs.Classes.{PlainClass}
use Rattle.cml_explore.specs.Explored.{PlainExplored, IsExplored, IsFirstOutput}
use Rattle.cml_explore.specs.Stops.{is_saved}
use Rattle.cml_explore.specs.Told.{IsToldOfRuns}
use Rattle.cml_explore.specs.declared.explored.Asked.{Asked}
use Rattle.cml_explore.specs.declared.explored.Until.{Until}
use Rattle.cml_explore.specs.declared.told.ClassTold.{ClassTold}
use Rattle.cml_explore.specs.declared.told.RunsTold.{RunsTold}
use Rattle.cml_json.specs.Explored.{explore_json}
use Rattle.cml_phrase.specs.Spots.{all_places}
use Rattle.cml_explore.specs.declared.explored.Until.TheVariants as stop
use Rattle.cml_properties.specs.declared.property.Property.{Property}
use Rattle.cml_properties.specs.declared.property.Property.TheVariants.{SameLines, SameOrder}
use Rattle.cml_schedule.specs.Written.{schedule_text}
use Rattle.cml_schedule.specs.declared.item.Item.{Item}
use Rattle.cml_stream.specs.Counts.{counted}
use Rattle.cml_stream.specs.Streams.{Stream, Takes}
use Rattle.cml_arguments.specs.Words.{saved_name, start_of, until_named}
use Rattle.cml_arguments.specs.declared.ExploreOptions.{ExploreOptions}
use Rattle.cml_arguments.specs.declared.Until.TheVariants as word
use Rattle.cml_arguments.specs.declared.Until as words
use Rattle.cml_host.specs.Behind.{RepliesAfter, bytes_of}
use Rattle.cml_host.specs.Narrated.{broken_by}
use Rattle.cml_host.specs.Replies.{File, Passage, PlainReply, RefusalOf, file, refusal, runs_out}
use Rattle.cml_host.specs.Orders.{order_said, orders_said}
use Rattle.cml_host.specs.declared.explore.Seen.{Seen}
use Rattle.cml_host.specs.Scripts.{PlainScript, IsOpened, IsNoScript}
use Rattle.cml_host.specs.Servers.{IsNoFunction, first_unknown, server_numbers}
use Rattle.cml_host.specs.Stores.{Content, Shelf}
use Rattle.cml_host.specs.Wanted.{AreWanted, IsUnwanted}
use Rattle.cml_host.specs.declared.explain.Halt.{Halt}
use Rattle.cml_host.specs.declared.wanted.Alike.{Alike}

-- ---- what is asked for

-- the runs at which to stop, as the words say it
abbrev pub stop_of : words.Until → Until
stop_of word.Waits = stop.Waits
stop_of word.Deadlock = stop.Deadlock
stop_of word.Fault = stop.Fault
stop_of word.Budget = stop.Budget
stop_of word.Bad = stop.Bad

abbrev pub stop_in : Option words.Until → List Until
stop_in None = []
stop_in (Some word) = stop_of word ∷ []

abbrev pub stops_of : List Name → List Until
stops_of given = flat_map (λ name. stop_in (until_named name)) given

abbrev pub explored_until : ExploreOptions → List Name
explored_until options = map (λ name. name.now) options.until.items

-- the names of the functions of servers that the arguments give
abbrev pub explored_servers : ExploreOptions → List Name
explored_servers options = map (λ name. name.now) options.servers.items

-- the property compares runs
abbrev pub compares : Property → Bool
compares SameLines = true
compares SameOrder = true
compares _ = false

-- The runs are held beside the first of them, if a property compares runs.
abbrev pub IsBeside : List (PlainItem ℕ) → Asked → Type 0
IsBeside p asked = list_any compares asked.wanted.properties.now ≡ true → IsFirstOutput p asked asked.wanted.first.now

-- what the arguments say of printing alike
abbrev pub alike_of : ExploreOptions → Alike
alike_of options = record { lines = options.same_lines; order = options.same_order }

-- these runs are those that the arguments ask for, where these properties are wanted, and the functions of servers have these numbers
pub record AsksForRuns (options : ExploreOptions) (properties : List Property) (servers : List ℕ) (asked : Asked) : Type 0 where
  pub budget : asked.budget ≡ options.steps
  pub first : asked.first ≡ options.seed
  pub runs : asked.runs ≡ options.runs
  pub orders : asked.orders ≡ orders_said options.picks (order_said options.turns options.priority)
  pub servers_are : asked.servers.now ≡ servers
  pub wanted_are : asked.wanted.properties.now ≡ properties
  pub until : asked.until.now ≡ stops_of (explored_until options)

-- ---- what is shown meanwhile

-- how many of a hundred so many of the runs are
abbrev pub percent : ℕ → ℕ → ℕ
percent runs count = (count * 100) / runs

-- this may be shown meanwhile: any words, on a terminal; elsewhere nothing
abbrev pub MayShow : Bool → List ℕ → Type 0
MayShow true shown = Unit {0}
MayShow false shown = shown ≡ []

-- that was written
abbrev pub ShowsMarks : Bool → Stream → Type 0
ShowsMarks shows errors = (shown : List ℕ) × MayShow shows shown × Takes errors shown

-- ---- what is saved

-- the shortest schedule of the class of this number
abbrev pub shortest_of : List PlainClass → ℕ → List Item
shortest_of classes number = option_map_or (λ c. c.summary.shortest) (slice_get classes number) []

-- the file of the class of this number, which comes in this place in the answer, counted from 1
abbrev pub file_of : Name → ℕ → List (PlainItem ℕ) → List PlainClass → ℕ → ℕ → File
file_of start budget p classes place number =
    file true (saved_name start (decimal place)) (schedule_text budget (size_of p) (shortest_of classes number))

-- the files of the classes of these numbers, of which the first comes in this place
abbrev pub files_from : Name → ℕ → List (PlainItem ℕ) → List PlainClass → ℕ → List ℕ → List File
files_from start budget p classes place [] = []
files_from start budget p classes place (number ∷ numbers) =
    file_of start budget p classes place number ∷ files_from start budget p classes (suc place) numbers

-- how many bad and good classes there are with this one
abbrev pub and_one : Seen → Bool → Seen
and_one seen true = record seen { good = seen.good + 1 }
and_one seen false = record seen { bad = seen.bad + 1 }

-- of its kind
abbrev pub seen_of : Seen → Bool → ℕ
seen_of seen true = seen.good
seen_of seen false = seen.bad

-- the file of a class that was told, the last of its kind so far
abbrev pub file_told : Name → ℕ → List (PlainItem ℕ) → List PlainClass → Seen → ClassTold → File
file_told start budget p classes seen c = file_of (start_of start c.well) budget p classes (seen_of seen c.well) c.number

-- the files of these classes, behind so many: bad ones and good ones are counted apart
abbrev pub files_behind : Name → ℕ → List (PlainItem ℕ) → List PlainClass → Seen → List ClassTold → List File
files_behind start budget p classes seen [] = []
files_behind start budget p classes seen (c ∷ cs) =
    file_told start budget p classes (and_one seen c.well) c ∷ files_behind start budget p classes (and_one seen c.well) cs

abbrev pub none_seen : Seen
none_seen = record { bad = 0; good = 0 }

-- the files that the arguments ask for: one for each class that is saved, in the order in which they are told
abbrev pub files_told : Option Name → ℕ → List (PlainItem ℕ) → List PlainClass → RunsTold → List File
files_told None budget p classes told = []
files_told (Some start) budget p classes told = files_behind start budget p classes none_seen (filter (is_saved told) told.classes.items)

-- the status where these runs ended well, or not
abbrev pub judged : Bool → ℕ
judged well = if well then 0 else 6

-- ---- how it is told

abbrev pub saved_start : ExploreOptions → Option Name
saved_start options = option_map (λ start. start.now) options.save

-- with `--json` this is written of what is told
abbrev pub RunsWritten : ExploreOptions → PlainScript → List Property → RunsTold → List ℕ → Type 0
RunsWritten options s properties told text = options.json ≡ true → text ≡ explore_json options.script.now s.forms properties told

-- This is told of what was made; the files that are asked for are saved; and the status says whether all runs ended well.
abbrev pub TellsRuns : ExploreOptions → PlainScript → Asked → PlainExplored → PlainReply → Type 0
TellsRuns options s asked made reply =
    ((told : RunsTold) × IsToldOfRuns (all_places s.text s.forms) s.program asked made told
    × (reply.files ≡ files_told (saved_start options) options.steps s.program made.classes told)
    × RunsWritten options s asked.wanted.properties.now told reply.output)
    × (reply.words ≡ []) × (reply.status ≡ judged made.well)

-- the runs that the arguments ask for were made, and are told of; or memory ran out
abbrev pub HasToldRuns : ExploreOptions → PlainScript → List Property → List ℕ → PlainReply → Type 0
HasToldRuns options s properties servers reply =
    ((asked : Asked) × AsksForRuns options properties servers asked × IsBeside s.program asked
    × ((made : PlainExplored) × IsExplored s.program asked made × TellsRuns options s asked made reply))
    ⊎ (reply ≡ runs_out [])

-- the same behind what was shown; or what is shown could not be written, and nothing is told
abbrev pub ProgramExplored : ExploreOptions → Bool → PlainScript → List Property → List ℕ → Passage → PlainReply → Type 0
ProgramExplored options shows s properties servers errors reply =
    ShowsMarks shows (bytes_of errors)
    × (((errors.new.failed ≡ errors.old.failed) × HasToldRuns options s properties servers reply)
    ⊎ ((errors.new.failed ≡ counted errors.old.failed) × (reply ≡ refusal [] 1)))

-- The same of the script, where it has the functions that are named as those of servers; or it has not, or memory ran out before.
abbrev pub ScriptExplored : ExploreOptions → Bool → PlainScript → List Property → Passage → PlainReply → Type 0
ScriptExplored options shows s properties errors reply =
    ((first_unknown s (explored_servers options) ≡ None)
    × ProgramExplored options shows s properties (server_numbers s (explored_servers options)) errors reply)
    ⊎ (RefusalOf (IsNoFunction s (explored_servers options)) reply × (errors.new ≡ errors.old))

-- The same, where the arguments say what must hold of each run; or what is wrong with that is told.
abbrev pub WantedExplored : ExploreOptions → Bool → PlainScript → (List ℕ → Content) → Passage → PlainReply → Type 0
WantedExplored options shows s held errors reply =
    ((properties : List Property) × AreWanted options.properties (alike_of options) held properties × ScriptExplored options shows s properties errors reply)
    ⊎ (RefusalOf (IsUnwanted true options.properties held) reply × (errors.new ≡ errors.old))

-- The runs of the script that lies under the name were made and told of; how far it is is shown where the errors go to a terminal. Or no
-- script lies there, which is explained, it was not read, or memory ran out.
abbrev pub ExploresSo : ExploreOptions → Bool → (List ℕ → Content) → Passage → PlainReply → Type 0
ExploresSo options terminal held errors reply =
    ((s : PlainScript) × IsOpened (held options.script.now) s × WantedExplored options terminal s held errors reply)
    ⊎ (RefusalOf (IsNoScript true options.script.now (held options.script.now)) reply × (errors.new ≡ errors.old))

-- `explore`: this was shown, and what is told of the runs was told and saved
abbrev pub ExploreOutcome : ExploreOptions → Bool → Passage → Passage → Shelf → ℕ → Type 0
ExploreOutcome options terminal output errors store status = RepliesAfter (ExploresSo options terminal store.before) output errors store status

-- ---- what private functions say

-- what was shown where this is why no more runs were made
abbrev pub StopsShowing : Bool → Halt → Passage → Type 0
StopsShowing shows why errors = ShowsMarks shows (bytes_of errors) × (errors.new.failed ≡ broken_by why errors.old.failed)
