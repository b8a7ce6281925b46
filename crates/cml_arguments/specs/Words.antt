-- What the arguments of the command line ask for, as clap reads them.
use Rattle.std.specs.Prelude.{◌≡◌, ◌≢◌, ◌<◌, ◌+◌, ◌^◌, ◌⊎◌, ◌&&◌, ◌||◌, if◌then◌else◌, ℕ, Bool, true, false, not, Option, Some, None}
use Rattle.std.specs.Prelude.{IfSome, IsSomeAnd, List, [], ◌∷◌, ◌++◌, codes, find, is_some, map, nat_lt, slice_get, option_map, unwrap_or}
use Rattle.std.specs.List.{list_all, list_any}
use Rattle.std.specs.Int.{IsInRange}
use Rattle.std.specs.Option.{option_map_or}
use Rattle.std.specs.Borrow.{Bor}
use Rattle.std.specs.Char.{is_ascii_digit}
use Rattle.std.specs.Str.{bytes_eq}
use Rattle.std.specs.String.{string_bytes}
use Rattle.std.specs.Str.Parse.{digits_value, without_leading_plus}
use Rattle.clap.specs.Takes.{value_passes}
use Rattle.clap.specs.Words.{App, Shape, Rule, Row, Text, new_app, new_rule, rule_of, shape_of, fault_of, Kinds, IsAmong, all_of, first_of, subcommand_of, with_subcommand}
use Rattle.clap.specs.declared.builder.arg.Arg.{Arg}
use Rattle.clap.specs.declared.builder.command.Command.{Command}
use Rattle.clap.specs.declared.builder.command.Command.TheViews.{out-Command}
use Rattle.clap.specs.declared.builder.action.ArgAction.TheVariants.{Append, Set, SetTrue}
use Rattle.clap.specs.declared.builder.value_parser.Reading.{Reading}
use Rattle.clap.specs.declared.builder.value_parser.Reading.TheVariants.{AsWritten}
use Rattle.clap.specs.declared.builder.value_parser.ValueParser.TheVariants as parser
use Rattle.clap.specs.declared.error.kind.ErrorKind.{ErrorKind}
use Rattle.clap.specs.declared.error.kind.ErrorKind.TheVariants.{DisplayHelp, DisplayVersion, OutOfMemory}
use Rattle.cml_arguments.specs.declared.Task.{Task}
use Rattle.cml_arguments.specs.declared.Task.TheVariants as task_of
use Rattle.cml_arguments.specs.declared.Answer.{Answer}
use Rattle.cml_arguments.specs.declared.Answer.TheVariants as answer
use Rattle.cml_arguments.specs.declared.Explain.{Explain}
use Rattle.cml_arguments.specs.declared.Explain.TheVariants.{Asked, Off, Unsaid}
use Rattle.cml_arguments.specs.declared.EndOptions.{EndOptions}
use Rattle.cml_arguments.specs.declared.ExploreOptions.{ExploreOptions}
use Rattle.cml_arguments.specs.declared.FileOptions.{FileOptions}
use Rattle.cml_arguments.specs.declared.PartOptions.{PartOptions}
use Rattle.cml_arguments.specs.declared.PropertyOptions.{PropertyOptions}
use Rattle.cml_arguments.specs.declared.ReplayOptions.{ReplayOptions}
use Rattle.cml_arguments.specs.declared.RunOptions.{RunOptions}
use Rattle.cml_arguments.specs.declared.ShrinkOptions.{ShrinkOptions}
use Rattle.cml_arguments.specs.declared.StepOptions.{StepOptions}
use Rattle.cml_arguments.specs.declared.TraceOptions.{TraceOptions}
use Rattle.cml_arguments.specs.declared.VerifyOptions.{VerifyOptions}
use Rattle.cml_arguments.specs.declared.Until.{Until}
use Rattle.cml_arguments.specs.declared.Until.TheVariants.{Bad, Budget, Deadlock, Fault, Waits}

-- ---- the commands

-- the name of a file, which must be given
abbrev pub file_rule : Text → Rule
file_rule name = record (new_rule name) { required = true; action = Some Set }

-- an option that takes a value, `--name VALUE`
abbrev pub option_rule : Text → Rule
option_rule name = record (new_rule name) { long = Some name; action = Some Set; value_names = 1 }

-- an option that may be given again, each time with a value
abbrev pub list_rule : Text → Rule
list_rule name = record (option_rule name) { action = Some Append }

-- an option that takes a number from `least` to `most`
abbrev pub number_rule : ℕ → ℕ → Text → Rule
number_rule least most name = record (option_rule name) { parser = Some (parser.Unsigned least most) }

-- any number of u64, and one that counts steps or items, from 1 to 1,000,000,000
abbrev pub any_rule : Text → Rule
any_rule = number_rule 0 18446744073709551615

abbrev pub count_rule : Text → Rule
count_rule = number_rule 1 1000000000

-- a number of workers, from 1 to 64, and one of runs, from 1 to 1,000,000
abbrev pub workers_rule : Text → Rule
workers_rule = number_rule 1 64

abbrev pub runs_rule : Text → Rule
runs_rule = number_rule 1 1000000

-- a number of states, from 1 to 100,000,000
abbrev pub states_rule : Text → Rule
states_rule = number_rule 1 100000000

-- a depth of priorities, from 1 to 64
abbrev pub depth_rule : Text → Rule
depth_rule = number_rule 1 64

-- a flag, `--name`
abbrev pub flag_rule : Text → Rule
flag_rule name = record (new_rule name) { long = Some name; action = Some SetTrue; parser = Some parser.Bool }

-- the options by which a command is told which threads may be left at the end of a run
abbrev pub end_rules : List Rule
end_rules = flag_rule (codes "strict") ∷ list_rule (codes "servers") ∷ []

-- the flags by which a command is asked to explain what is wrong, and not to
abbrev pub explain_rules : List Rule
explain_rules = flag_rule (codes "explain") ∷ flag_rule (codes "plain") ∷ []

-- the options by which a command is told how the order of the turns comes about
abbrev pub order_rules : List Rule
order_rules = flag_rule (codes "turns") ∷ depth_rule (codes "priority") ∷ []

-- the options by which a command is told what must hold of a run
abbrev pub property_rules : List Rule
property_rules =
    list_rule (codes "never") ∷ list_rule (codes "always") ∷ list_rule (codes "once") ∷ list_rule (codes "before") ∷ flag_rule (codes "empty")
    ∷ option_rule (codes "properties") ∷ []

-- and to stop where that does not hold
abbrev pub stop_rules : List Rule
stop_rules = flag_rule (codes "stop") ∷ []

-- the options by which a command is told that runs must print alike
abbrev pub alike_rules : List Rule
alike_rules = flag_rule (codes "same-lines") ∷ flag_rule (codes "same-order") ∷ []

-- the options by which a command is told what to make of many runs
abbrev pub finding_rules : List Rule
finding_rules = option_rule (codes "save") ∷ list_rule (codes "servers") ∷ list_rule (codes "until") ∷ []

-- the argument follows this rule, and is its command's alone
pub record FollowsRule (wanted : Rule) (arg : Arg) : Type 0 where
  pub rule : rule_of arg ≡ wanted
  pub global : arg.global ≡ false

-- the command has this shape, and no argument that the commands below it take too
pub record IsShapedAs (wanted : Shape) (command : Command) : Type 0 where
  pub shape : shape_of command ≡ wanted
  pub globals : (out-Command command).has_globals ≡ false

-- a command with these arguments
abbrev pub command_of : Text → List Rule → Shape
command_of name rules = record (new_app name).top { rules = rules }

abbrev pub trace_command : Shape
trace_command = command_of (codes "trace") (flag_rule (codes "live") ∷ explain_rules)

-- a command that takes a file alone
abbrev pub file_command : Text → Shape
file_command name = command_of name (file_rule (codes "FILE") ∷ explain_rules)

abbrev pub run_command : Shape
run_command = command_of (codes "run")
    (file_rule (codes "FILE") ∷ workers_rule (codes "workers") ∷ count_rule (codes "steps") ∷ any_rule (codes "seed") ∷ count_rule (codes "watch")
    ∷ option_rule (codes "record") ∷ option_rule (codes "draw") ∷ order_rules ++ (end_rules ++ (property_rules ++ (stop_rules ++ explain_rules))))

abbrev pub replay_command : Shape
replay_command = command_of (codes "replay")
    (file_rule (codes "FILE") ∷ file_rule (codes "SCHEDULE") ∷ count_rule (codes "watch") ∷ end_rules ++ (property_rules ++ (stop_rules ++ explain_rules)))

-- a command that takes a part of a schedule
abbrev pub part_command : Text → Shape
part_command name = command_of name (file_rule (codes "FILE") ∷ file_rule (codes "SCHEDULE") ∷ count_rule (codes "from") ∷ count_rule (codes "to") ∷ [])

abbrev pub explore_command : Shape
explore_command = command_of (codes "explore")
    (file_rule (codes "FILE") ∷ runs_rule (codes "runs") ∷ any_rule (codes "seed") ∷ count_rule (codes "steps") ∷ workers_rule (codes "workers")
    ∷ flag_rule (codes "picks") ∷ flag_rule (codes "json") ∷ order_rules ++ (finding_rules ++ (property_rules ++ alike_rules)))

abbrev pub verify_command : Shape
verify_command =
    command_of (codes "verify")
    (file_rule (codes "FILE") ∷ states_rule (codes "states") ∷ flag_rule (codes "outcomes") ∷ flag_rule (codes "endless") ∷ option_rule (codes "save")
    ∷ list_rule (codes "servers") ∷ flag_rule (codes "json") ∷ [])

abbrev pub shrink_command : Shape
shrink_command = command_of (codes "shrink")
    (file_rule (codes "FILE") ∷ file_rule (codes "SCHEDULE") ∷ count_rule (codes "tries") ∷ property_rules ++ stop_rules)

abbrev pub step_command : Shape
step_command = command_of (codes "step") (file_rule (codes "FILE") ∷ option_rule (codes "record") ∷ [])

-- the program, with its commands, of which one must be named; it has a version
abbrev pub commands : App
commands = record {
  top = record (new_app (codes "cml")).top { subcommand_required = true; is_leaf = false; has_version = true };
  subs = trace_command
      ∷ file_command (codes "check")
      ∷ file_command (codes "fmt")
      ∷ run_command
      ∷ replay_command
      ∷ part_command (codes "explain")
      ∷ explore_command
      ∷ verify_command
      ∷ shrink_command
      ∷ part_command (codes "draw")
      ∷ step_command
      ∷ [];
}

-- the kinds of error that clap may report for the arguments, of which the first is the program's name; a request for help is one of them
abbrev pub faults : List (List ℕ) → Kinds
faults words = fault_of commands words

-- ---- what a command was given

-- the number that is given to this option, where it is given one
abbrev pub option_number : Text → List Row → Option ℕ
option_number option given = option_map (λ text. digits_value 10 (without_leading_plus text)) (first_of option given)

-- all that is given to this option
abbrev pub option_texts : Text → List Row → List Text
option_texts option given = unwrap_or (all_of option given) []

-- whether this flag is given
abbrev pub is_flagged : Text → List Row → Bool
is_flagged flag given = option_map_or (λ text. bytes_eq text (codes "true")) (first_of flag given) false

-- what is said of explaining what is wrong: `--plain` turns it off, also where `--explain` asks for it
abbrev pub explanation : List Row → Explain
explanation given = if is_flagged (codes "plain") given then Off else if is_flagged (codes "explain") given then Asked else Unsaid

-- Whether it is explained, where the errors go to a terminal or not: there it is unless it is turned off, and elsewhere only where it is
-- asked for.
abbrev pub explains : Explain → Bool → Bool
explains Asked terminal = true
explains Off terminal = false
explains Unsaid terminal = terminal

abbrev pub IsCount : ℕ → Type 0
IsCount = IsInRange 1 1000000000

abbrev pub IsWorkers : ℕ → Type 0
IsWorkers = IsInRange 1 64

abbrev pub IsRuns : ℕ → Type 0
IsRuns = IsInRange 1 1000000

abbrev pub IsStates : ℕ → Type 0
IsStates = IsInRange 1 100000000

abbrev pub IsDepth : ℕ → Type 0
IsDepth = IsInRange 1 64

-- what the word of `--until` means, if anything
abbrev pub until_named : Text → Option Until
until_named word =
    if bytes_eq word (codes "waits") then Some Waits
    else if bytes_eq word (codes "deadlock") then Some Deadlock
    else if bytes_eq word (codes "fault") then Some Fault
    else if bytes_eq word (codes "budget") then Some Budget
    else if bytes_eq word (codes "bad") then Some Bad
    else None

-- the options of `trace` are what was given
pub record IsTrace (given : List Row) (options : TraceOptions) : Type 0 where
  pub live : options.live ≡ is_flagged (codes "live") given
  pub explain : options.explain ≡ explanation given

-- the options of a command that takes a file alone are what was given
pub record IsFile (given : List Row) (options : FileOptions) : Type 0 where
  pub file : first_of (codes "FILE") given ≡ Some options.file.now
  pub explain : options.explain ≡ explanation given

-- what is said of threads that are left at the end is what was given
pub record IsEnd (given : List Row) (options : EndOptions) : Type 0 where
  pub strict : options.strict ≡ is_flagged (codes "strict") given
  pub servers : map (λ name. name.now) options.servers.items ≡ option_texts (codes "servers") given

-- what must hold of a run is what was given, each option as often as it was
pub record IsProperties (given : List Row) (options : PropertyOptions) : Type 0 where
  pub never : map (λ text. text.now) options.never.items ≡ option_texts (codes "never") given
  pub always : map (λ text. text.now) options.always.items ≡ option_texts (codes "always") given
  pub once : map (λ text. text.now) options.once.items ≡ option_texts (codes "once") given
  pub before : map (λ text. text.now) options.before.items ≡ option_texts (codes "before") given
  pub empty : options.empty ≡ is_flagged (codes "empty") given
  pub file : option_map (λ name. name.now) options.file ≡ first_of (codes "properties") given

-- the options of `run` are what was given; where no number of workers was, one worker, and where no number of steps was, 1,000,000
pub record IsRun (given : List Row) (options : RunOptions) : Type 0 where
  pub file : first_of (codes "FILE") given ≡ Some options.file.now
  pub workers : options.workers ≡ unwrap_or (option_number (codes "workers") given) 1
  pub steps : options.steps ≡ unwrap_or (option_number (codes "steps") given) 1000000
  pub seed : options.seed ≡ option_number (codes "seed") given
  pub turns : options.turns ≡ is_flagged (codes "turns") given
  pub priority : options.priority ≡ option_number (codes "priority") given
  pub watch : options.watch ≡ option_number (codes "watch") given
  pub record_file : option_map (λ name. name.now) options.record ≡ first_of (codes "record") given
  pub draw_file : option_map (λ name. name.now) options.draw ≡ first_of (codes "draw") given
  pub end : IsEnd given options.end
  pub properties : IsProperties given options.properties
  pub stop : options.stop ≡ is_flagged (codes "stop") given
  pub explain : options.explain ≡ explanation given
  pub counts : IsWorkers options.workers × IsCount options.steps × IfSome options.watch IsCount × IfSome options.priority IsDepth

-- and those of `replay`
pub record IsReplay (given : List Row) (options : ReplayOptions) : Type 0 where
  pub script : first_of (codes "FILE") given ≡ Some options.script.now
  pub schedule : first_of (codes "SCHEDULE") given ≡ Some options.schedule.now
  pub watch : options.watch ≡ option_number (codes "watch") given
  pub end : IsEnd given options.end
  pub properties : IsProperties given options.properties
  pub stop : options.stop ≡ is_flagged (codes "stop") given
  pub explain : options.explain ≡ explanation given
  pub counts : IfSome options.watch IsCount

-- and those of a command that takes a part of a schedule; where no first item was given, the first of all
pub record IsPart (given : List Row) (options : PartOptions) : Type 0 where
  pub script : first_of (codes "FILE") given ≡ Some options.script.now
  pub schedule : first_of (codes "SCHEDULE") given ≡ Some options.schedule.now
  pub first : options.from ≡ unwrap_or (option_number (codes "from") given) 1
  pub last : options.to ≡ option_number (codes "to") given
  pub counts : IsCount options.from × IfSome options.to IsCount

-- and those of `explore`; where no number of runs was, 100, where no seed was, 0, and where no number of steps was, 1,000,000
pub record IsExplore (given : List Row) (options : ExploreOptions) : Type 0 where
  pub script : first_of (codes "FILE") given ≡ Some options.script.now
  pub runs : options.runs ≡ unwrap_or (option_number (codes "runs") given) 100
  pub seed : options.seed ≡ unwrap_or (option_number (codes "seed") given) 0
  pub steps : options.steps ≡ unwrap_or (option_number (codes "steps") given) 1000000
  pub workers : options.workers ≡ option_number (codes "workers") given
  pub picks : options.picks ≡ is_flagged (codes "picks") given
  pub turns : options.turns ≡ is_flagged (codes "turns") given
  pub priority : options.priority ≡ option_number (codes "priority") given
  pub save : option_map (λ start. start.now) options.save ≡ first_of (codes "save") given
  pub servers : map (λ name. name.now) options.servers.items ≡ option_texts (codes "servers") given
  pub until : map (λ word. word.now) options.until.items ≡ option_texts (codes "until") given
  pub properties : IsProperties given options.properties
  pub same_lines : options.same_lines ≡ is_flagged (codes "same-lines") given
  pub same_order : options.same_order ≡ is_flagged (codes "same-order") given
  pub json : options.json ≡ is_flagged (codes "json") given
  pub counts : IsRuns options.runs × IsCount options.steps × IfSome options.workers IsWorkers × IfSome options.priority IsDepth

-- and those of `verify`; where no number of states was, 20,000
pub record IsVerify (given : List Row) (options : VerifyOptions) : Type 0 where
  pub script : first_of (codes "FILE") given ≡ Some options.script.now
  pub states : options.states ≡ unwrap_or (option_number (codes "states") given) 20000
  pub outcomes : options.outcomes ≡ is_flagged (codes "outcomes") given
  pub endless : options.endless ≡ is_flagged (codes "endless") given
  pub save : option_map (λ start. start.now) options.save ≡ first_of (codes "save") given
  pub servers : map (λ name. name.now) options.servers.items ≡ option_texts (codes "servers") given
  pub json : options.json ≡ is_flagged (codes "json") given
  pub counts : IsStates options.states

-- and those of `shrink`; where no number of replays was given, 10,000
pub record IsShrink (given : List Row) (options : ShrinkOptions) : Type 0 where
  pub script : first_of (codes "FILE") given ≡ Some options.script.now
  pub schedule : first_of (codes "SCHEDULE") given ≡ Some options.schedule.now
  pub tries : options.tries ≡ unwrap_or (option_number (codes "tries") given) 10000
  pub properties : IsProperties given options.properties
  pub stop : options.stop ≡ is_flagged (codes "stop") given
  pub counts : IsCount options.tries

-- and those of `step`
pub record IsStepping (given : List Row) (options : StepOptions) : Type 0 where
  pub script : first_of (codes "FILE") given ≡ Some options.script.now
  pub record_file : option_map (λ name. name.now) options.record ≡ first_of (codes "record") given

-- The command that was named, with the values that it was given, is this one.
abbrev pub Names : Text × List Row → Task → Type 0
Names (name, given) (task_of.Trace options) = (name ≡ codes "trace") × IsTrace given options
Names (name, given) (task_of.Check options) = (name ≡ codes "check") × IsFile given options
Names (name, given) (task_of.Fmt options) = (name ≡ codes "fmt") × IsFile given options
Names (name, given) (task_of.Run options) = (name ≡ codes "run") × IsRun given options
Names (name, given) (task_of.Replay options) = (name ≡ codes "replay") × IsReplay given options
Names (name, given) (task_of.Explain options) = (name ≡ codes "explain") × IsPart given options
Names (name, given) (task_of.Explore options) = (name ≡ codes "explore") × IsExplore given options
Names (name, given) (task_of.Verify options) = (name ≡ codes "verify") × IsVerify given options
Names (name, given) (task_of.Shrink options) = (name ≡ codes "shrink") × IsShrink given options
Names (name, given) (task_of.Draw options) = (name ≡ codes "draw") × IsPart given options
Names (name, given) (task_of.Step options) = (name ≡ codes "step") × IsStepping given options

-- ---- options at odds

-- Options are at odds in one way, or, where they are not, in another. So the first of the two is told.
abbrev pub OrElse : (List ℕ → Type 0) → (List ℕ → Type 0) → List ℕ → Type 0
OrElse one other told = one told ⊎ (((text : List ℕ) → one text → ⊥) × other told)

-- two options are both given that can't be
abbrev pub Clash : Text → Bool → Text → Bool → List ℕ → Type 0
Clash one given other also told = (given ≡ true) × (also ≡ true) × (told ≡ one ++ (codes " can't be used with " ++ (other ++ codes "\n")))

-- what this option saves would replace the file of this name: both are given by the same text
abbrev pub Replaces : Option Text → Text → Type 0
Replaces saved name = saved ≡ Some name

-- what is said of it
abbrev pub would_replace : Text → Text → List ℕ
would_replace option name = option ++ (codes " would replace " ++ (name ++ codes "\n"))

abbrev pub ReplacedOdds : Text → Option Text → Text → List ℕ → Type 0
ReplacedOdds option saved name told = Replaces saved name × (told ≡ would_replace option name)

-- a trace is to be explained whose lines are answered at once
abbrev pub ExplainsLive : TraceOptions → Type 0
ExplainsLive options = (options.live ≡ true) × (options.explain ≡ Asked)

abbrev pub TraceOdds : TraceOptions → List ℕ → Type 0
TraceOdds options told = ExplainsLive options × (told ≡ codes "--explain can't be used with --live\n")

-- the record of a run would replace its script, or its picture the script or the record
abbrev pub record_of : RunOptions → Option Text
record_of options = option_map (λ name. name.now) options.record

abbrev pub drawn_to : RunOptions → Option Text
drawn_to options = option_map (λ name. name.now) options.draw

abbrev pub OverRecord : RunOptions → List ℕ → Type 0
OverRecord options told = IsSomeAnd (record_of options) (λ name. ReplacedOdds (codes "--draw") (drawn_to options) name told)

-- the order of the turns is said, by this option, and more workers than one are asked for, or reports
abbrev pub is_ordered : RunOptions → Bool
is_ordered options = options.turns || is_some options.priority

abbrev pub order_word : Bool → Text
order_word turns = if turns then codes "--turns" else codes "--priority"

-- a run is to stop where a property breaks, and more workers than one are asked for, or reports
abbrev pub StopWatchOdds : Bool → Option ℕ → List ℕ → Type 0
StopWatchOdds stop watch = Clash (codes "--stop") stop (codes "--watch") (is_some watch)

abbrev pub StopOdds : RunOptions → List ℕ → Type 0
StopOdds options = OrElse (Clash (codes "--stop") options.stop (codes "--workers") (nat_lt 1 options.workers)) (StopWatchOdds options.stop options.watch)

abbrev pub WatchOdds : RunOptions → List ℕ → Type 0
WatchOdds options = OrElse (Clash (order_word options.turns) (is_ordered options) (codes "--watch") (is_some options.watch)) (StopOdds options)

abbrev pub WorkersOdds : RunOptions → List ℕ → Type 0
WorkersOdds options = OrElse (Clash (order_word options.turns) (is_ordered options) (codes "--workers") (nat_lt 1 options.workers)) (WatchOdds options)

-- it is said in two ways
abbrev pub TurnsOdds : RunOptions → List ℕ → Type 0
TurnsOdds options = OrElse (Clash (codes "--turns") options.turns (codes "--priority") (is_some options.priority)) (WorkersOdds options)

abbrev pub OverOdds : RunOptions → List ℕ → Type 0
OverOdds options = OrElse (OverRecord options) (TurnsOdds options)

abbrev pub DrawnOdds : RunOptions → List ℕ → Type 0
DrawnOdds options = OrElse (ReplacedOdds (codes "--draw") (drawn_to options) options.file.now) (OverOdds options)

abbrev pub RunOdds : RunOptions → List ℕ → Type 0
RunOdds options = OrElse (ReplacedOdds (codes "--record") (record_of options) options.file.now) (DrawnOdds options)

-- a word of `--until` means nothing
abbrev pub is_unknown : Text → Bool
is_unknown word = not (is_some (until_named word))

abbrev pub UntilOdds : List (Bor Text) → List ℕ → Type 0
UntilOdds until told = (list_any (λ word. is_unknown word.now) until ≡ true) × (told ≡ codes "--until takes waits, deadlock, fault, budget or bad\n")

-- the last of so many runs, the first of which has this seed, would have one that is larger than the last seed, 2^64 - 1
abbrev pub PassesTheLast : ℕ → ℕ → Type 0
PassesTheLast seed runs = 2 ^ 64 < seed + runs

-- the name of the file of this number, whose digits these are, where the names begin so
abbrev pub saved_end : List ℕ → Text
saved_end digits = codes "-" ++ (digits ++ codes ".schedule")

abbrev pub saved_name : Text → List ℕ → Text
saved_name start digits = start ++ saved_end digits

-- a file whose name begins so may be saved under this name
abbrev pub SavesOver : Text → Text → Type 0
SavesOver start name = (digits : List ℕ) × (list_all is_ascii_digit digits ≡ true) × (name ≡ saved_name start digits)

-- what the names of the files of bad or of good classes begin with
abbrev pub start_of : Text → Bool → Text
start_of start well = start ++ (if well then codes "-good" else codes "-bad")

abbrev pub SavedOdds : Text → Text → List ℕ → Type 0
SavedOdds start script told = SavesOver start script × (told ≡ would_replace (codes "--save") script)

abbrev pub KindsOdds : Text → Text → List ℕ → Type 0
KindsOdds start script = OrElse (SavedOdds (start_of start false) script) (SavedOdds (start_of start true) script)

-- a word of `--until` means nothing; the order of the turns is said in two ways; there are fewer seeds than runs; or a file that is saved would
-- replace the script
abbrev pub SaveOdds : Option Text → Text → List ℕ → Type 0
SaveOdds save script told = IsSomeAnd save (λ start. KindsOdds start script told)

abbrev pub LastOdds : ℕ → ℕ → List ℕ → Type 0
LastOdds seed runs told = PassesTheLast seed runs × (told ≡ codes "--runs goes past the last seed, 18446744073709551615\n")

abbrev pub saved_to : ExploreOptions → Option Text
saved_to options = option_map (λ start. start.now) options.save

abbrev pub SeedsOdds : ExploreOptions → List ℕ → Type 0
SeedsOdds options = OrElse (LastOdds options.seed options.runs) (SaveOdds (saved_to options) options.script.now)

abbrev pub DepthOdds : ExploreOptions → List ℕ → Type 0
DepthOdds options = OrElse (Clash (codes "--picks") options.picks (codes "--priority") (is_some options.priority)) (SeedsOdds options)

abbrev pub PicksOdds : ExploreOptions → List ℕ → Type 0
PicksOdds options = OrElse (Clash (codes "--picks") options.picks (codes "--turns") options.turns) (DepthOdds options)

abbrev pub OrderOdds : ExploreOptions → List ℕ → Type 0
OrderOdds options = OrElse (Clash (codes "--turns") options.turns (codes "--priority") (is_some options.priority)) (PicksOdds options)

abbrev pub ExploreOdds : ExploreOptions → List ℕ → Type 0
ExploreOdds options = OrElse (UntilOdds options.until.items) (OrderOdds options)

-- a file that `verify` saves would replace the script
abbrev pub VerifySaveOdds : VerifyOptions → List ℕ → Type 0
VerifySaveOdds options told = IsSomeAnd options.save (λ start. SavesOver start.now options.script.now) × (told ≡ would_replace (codes "--save") options.script.now)

-- `--json` and `--outcomes` are both given; or a file that is saved would replace the script
abbrev pub VerifyOdds : VerifyOptions → List ℕ → Type 0
VerifyOdds options = OrElse (Clash (codes "--json") options.json (codes "--outcomes") options.outcomes) (VerifySaveOdds options)

-- the record of a run by hand would replace its script
abbrev pub StepOdds : StepOptions → List ℕ → Type 0
StepOdds options told = ReplacedOdds (codes "--record") (option_map (λ name. name.now) options.record) options.script.now told

-- the script and its schedule are both to be read from standard input
abbrev pub InputOdds : Text → Text → List ℕ → Type 0
InputOdds script schedule told = (script ≡ codes "-") × (schedule ≡ codes "-") × (told ≡ codes "FILE and SCHEDULE can't both be -\n")

-- the options of the command are at odds, and this says so
abbrev pub AreAtOdds : Task → List ℕ → Type 0
AreAtOdds (task_of.Trace options) told = TraceOdds options told
AreAtOdds (task_of.Run options) told = RunOdds options told
AreAtOdds (task_of.Replay options) told = OrElse (StopWatchOdds options.stop options.watch) (InputOdds options.script.now options.schedule.now) told
AreAtOdds (task_of.Explain options) told = InputOdds options.script.now options.schedule.now told
AreAtOdds (task_of.Explore options) told = ExploreOdds options told
AreAtOdds (task_of.Verify options) told = VerifyOdds options told
AreAtOdds (task_of.Shrink options) told = InputOdds options.script.now options.schedule.now told
AreAtOdds (task_of.Draw options) told = InputOdds options.script.now options.schedule.now told
AreAtOdds (task_of.Step options) told = StepOdds options told
AreAtOdds _ told = ⊥

-- clap finds no error in the arguments, and they name this command
abbrev pub IsTask : List (List ℕ) → Task → Type 0
IsTask words task = (faults words ≡ []) × IsSomeAnd (subcommand_of commands words) (λ named. Names named task)

-- The answer is a command only where clap finds no error and the arguments name it, and its options are not at odds; help only where a
-- request for help or for the version is among the kinds of error; and a fault only where another kind is among them, or where clap finds
-- none and the options of the command are at odds, which is said.
abbrev pub IsAnswer : List (List ℕ) → Answer → Type 0
IsAnswer words (answer.Task task) = IsTask words task × ((told : List ℕ) → AreAtOdds task told → ⊥)
IsAnswer words (answer.Help text) = IsAmong DisplayHelp (faults words) ⊎ IsAmong DisplayVersion (faults words)
IsAnswer words (answer.Fault text) =
    ((kind : ErrorKind) × IsAmong kind (faults words) × (kind ≢ DisplayHelp) × (kind ≢ DisplayVersion))
    ⊎ ((task : Task) × IsTask words task × AreAtOdds task (string_bytes text))

-- ---- what private functions ask for

-- the command, with an argument more that follows this rule
abbrev pub with_rule : Rule → Shape → Shape
with_rule rule command = record command { rules = command.rules ++ rule ∷ [] }

-- the command, which says too whether it explains what is wrong
abbrev pub with_explain : Shape → Shape
with_explain command = record command { rules = command.rules ++ explain_rules }

-- the command, which says too which threads may be left at the end
abbrev pub with_end : Shape → Shape
with_end command = record command { rules = command.rules ++ end_rules }

-- the command, which says too what must hold of a run
abbrev pub with_properties : Shape → Shape
with_properties command = record command { rules = command.rules ++ property_rules }

-- and to stop where that does not hold
abbrev pub with_stop : Shape → Shape
with_stop command = record command { rules = command.rules ++ stop_rules }

-- and that runs must print alike
abbrev pub with_alike : Shape → Shape
with_alike command = record command { rules = command.rules ++ alike_rules }

-- the program, with the commands that make a run again and again, or by hand
abbrev pub with_others : App → App
with_others app =
    with_subcommand
    (with_subcommand (with_subcommand (with_subcommand (with_subcommand app explore_command) verify_command) shrink_command) (part_command (codes "draw")))
    step_command

-- and how the order of the turns comes about
abbrev pub with_order : Shape → Shape
with_order command = record command { rules = command.rules ++ order_rules }

-- and what is made of many runs
abbrev pub with_finding : Shape → Shape
with_finding command = record command { rules = command.rules ++ finding_rules }

-- the values of an argument are read as they are written
abbrev pub is_as_written : Reading → Bool
is_as_written AsWritten = true
is_as_written _ = false

-- the first value of an argument is there, and passes its parser
abbrev pub has_first_value : Rule → Row → Bool
has_first_value argument row = is_as_written row.reading && option_map_or (value_passes argument) (slice_get row.values 0) false

-- an argument was given such a value, or none where it may go without
abbrev pub is_served : List Row → Rule → Bool
is_served given argument = option_map_or (has_first_value argument) (find (λ row. bytes_eq row.id argument.id) given) (not argument.required)

-- each of these arguments was served
pub record AreServed (given : List Row) (rules : List Rule) : Type 0 where
  pub each : list_all (is_served given) rules ≡ true

-- a command of the program was named, and each of its arguments was served
abbrev pub is_complete : App → Option (Text × List Row) → Bool
is_complete app None = false
is_complete app (Some named) =
    option_map_or (λ command. list_all (is_served named.1) command.rules) (find (λ command. bytes_eq command.name named.0) app.subs) false

-- The answer to arguments that name this command: it, or where its options are at odds that this is so.
abbrev pub AnswersTask : Task → Answer → Type 0
AnswersTask task (answer.Task same) = (same ≡ task) × ((told : List ℕ) → AreAtOdds task told → ⊥)
AnswersTask task (answer.Help text) = ⊥
AnswersTask task (answer.Fault text) = AreAtOdds task (string_bytes text)

-- this is said of options that are at odds, or nothing, and then they are not
abbrev pub ToldOdds : (List ℕ → Type 0) → Option (List ℕ) → Type 0
ToldOdds odds (Some told) = odds told
ToldOdds odds None = (told : List ℕ) → odds told → ⊥

-- what is said of the options of this command, where they are at odds
abbrev pub AreOdds : Task → Option (List ℕ) → Type 0
AreOdds task told = ToldOdds (AreAtOdds task) told

-- the answer to an error of this kind
abbrev pub AnswersError : ErrorKind → Answer → Type 0
AnswersError kind (answer.Task task) = ⊥
AnswersError kind (answer.Help text) = (kind ≡ DisplayHelp) ⊎ (kind ≡ DisplayVersion)
AnswersError kind (answer.Fault text) = (kind ≢ DisplayHelp) × (kind ≢ DisplayVersion) × (kind ≢ OutOfMemory)
