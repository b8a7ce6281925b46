-- The command `run`: what it does with a script.
use Rattle.std.specs.Prelude.{◌≡◌, ◌≢◌, ◌⊎◌, ℕ, ◌<◌, Bool, MatchBool, List, [], ◌∷◌, ◌++◌, true, false, codes, Option, Some, None, length, option_map, unwrap_or}
use Rattle.cml_check.specs.Syntax.{PlainItem}
use Rattle.cml_hub.specs.Choices.{seeded}
use Rattle.cml_host.specs.Chosen.{by_first, by_words}
use Rattle.cml_hub.specs.Courses.{run_of}
use Rattle.cml_hub.specs.Kept.{Kept, SwapsAreExchanges}
use Rattle.cml_hub.specs.Playing.{Rules, run_by, played, begun_by, PlaysOut, PlaysSoFar}
use Rattle.cml_hub.specs.Runs.{Run, over, stands}
use Rattle.cml_judge.specs.Stops.{IsStoppedThere, IsToldUpTo}
use Rattle.cml_properties.specs.declared.property.Property.{Property}
use Rattle.cml_hub.specs.declared.choose.First.{First}
use Rattle.cml_schedule.specs.Reports.{PlainReport}
use Rattle.cml_schedule.specs.declared.item.Item.{Item}
use Rattle.cml_step.specs.Calls.{text_of}
use Rattle.cml_stream.specs.Streams.{Counted, Stream, Takes, TakesStart}
use Rattle.cml_text.specs.Lines.{line}
use Rattle.cml_arguments.specs.declared.RunOptions.{RunOptions}
use Rattle.cml_work.specs.Marks.{BeginsWith}
use Rattle.cml_work.specs.Works.{GoesOnFrom, IsWorked}
use Rattle.cml_work.specs.declared.fault.WorkFault.{WorkFault}
use Rattle.cml_work.specs.declared.fault.WorkFault.TheVariants as fault
use Rattle.cml_host.specs.declared.workers.Cause.{Cause}
use Rattle.cml_host.specs.declared.workers.Cause.TheVariants as cause
use Rattle.cml_host.specs.declared.workers.Stopped.{Stopped}
use Rattle.cml_host.specs.Stores.{Shelf}
use Rattle.cml_host.specs.Behind.{RepliesAfter}
use Rattle.cml_host.specs.Replies.{File, Passage, PlainReply, RefusalOf, Replies, broken, file, refusal, runs_out}
use Rattle.cml_host.specs.Scripts.{PlainScript, IsOpened, IsNoScript}
use Rattle.cml_host.specs.Orders.{order_said}
use Rattle.cml_explore.specs.SeedRuns.{IsSeedRun}
use Rattle.cml_explore.specs.declared.seed.order.Order.{Order}
use Rattle.cml_host.specs.Servers.{IsNoFunction, first_unknown, server_numbers, server_names}
use Rattle.cml_host.specs.Told.{IsRunOf, AllReported, AreTold, AreCut, AreForeign, reports_text}
use Rattle.cml_host.specs.Closed.{PlainAsked, IsClosed}
use Rattle.cml_host.specs.Wanted.{AreWanted, IsUnwanted, alone}
use Rattle.cml_host.specs.Drawn.{IsDrawnFrom, IsTooLongFrom}
use Rattle.cml_host.specs.declared.run.Saving.{Saving}

-- the run is over under this budget: nothing is left to do, or the budget is used; and no report is due
abbrev pub HasEnded : ℕ → Option ℕ → List Item → List PlainReport → Run → Type 0
HasEnded budget watch items reports r = (over budget r ≡ true) × AllReported watch items reports

-- what is to be saved of a run: the names of its schedule and of its picture, where they are asked for
pub record PlainSaving : Type 0 where
  pub schedule : Option (List ℕ)
  pub picture : Option (List ℕ)

-- what the arguments ask for
abbrev pub saving_of : RunOptions → PlainSaving
saving_of options = record { schedule = option_map (λ name. name.now) options.record; picture = option_map (λ name. name.now) options.draw }

-- the same reply, but that one file more is saved
abbrev pub and_saves : PlainReply → File → PlainReply
and_saves bare more = record { output = bare.output; files = bare.files ++ more ∷ []; words = bare.words; status = bare.status }

-- the same, but that this is said behind it, and that it did not go well
abbrev pub but_says : PlainReply → List ℕ → PlainReply
but_says bare told = record { output = bare.output; files = bare.files; words = told; status = 1 }

-- The picture of these items of the run, from its beginning on, where it is asked for under a name, is saved behind the files of the reply; or there
-- is too much to draw, and the errors tell that.
abbrev pub IsPictured : Bool → Option (List ℕ) → List (PlainItem ℕ) → ℕ → List Item → PlainReply → PlainReply → Type 0
IsPictured explains None p budget items bare reply = reply ≡ bare
IsPictured explains (Some name) p budget items bare reply =
    ((drawn : List ℕ) × IsDrawnFrom p budget items 1 (length items) drawn × (reply ≡ and_saves bare (file explains name drawn)))
    ⊎ (IsTooLongFrom p budget items 1 (length items) × ((told : List ℕ) × (reply ≡ but_says bare told)))

-- what is told of a run that is over, its picture with it
abbrev pub IsEndReply : PlainAsked → PlainSaving → List (PlainItem ℕ) → List Item → ℕ → Run → PlainReply → Type 0
IsEndReply asked saving p items budget r reply =
    (bare : PlainReply) × IsClosed asked saving.schedule p items budget r bare × IsPictured asked.explains saving.picture p budget items bare reply

-- What is told of a run that is over: of all of it; or, where it is to stop, of what it does until it stops.
abbrev pub EndsTold : PlainAsked → PlainSaving → List (PlainItem ℕ) → List Item → ℕ → PlainReply → Type 0
EndsTold asked saving p items budget reply =
    (told : List Item) × (r : Run) × IsToldUpTo asked.stops asked.properties (text_of p) items told × (stands (text_of p) told ≡ Some r)
    × IsEndReply asked saving p told budget r reply

-- memory ran out while it was told
abbrev pub MemoryRanOut : PlainAsked → List (PlainItem ℕ) → List Item → Run → PlainReply → Type 0
MemoryRanOut asked p items r reply =
    (reply ≡ runs_out r.output)
    ⊎ ((told : List Item) × (so_far : Run) × IsToldUpTo asked.stops asked.properties (text_of p) items told × (stands (text_of p) told ≡ Some so_far)
    × (reply ≡ runs_out so_far.output))

-- what is told of the run of this hub, which is over
abbrev pub IsEnded : PlainAsked → PlainSaving → Kept → PlainReply → Type 0
IsEnded asked saving h reply = IsEndReply asked saving h.course.program h.course.items h.budget (run_of h.course) reply

-- the same of a run that stops where it is to stop, or that memory ran out meanwhile
abbrev pub IsTold : PlainAsked → PlainSaving → Kept → PlainReply → Type 0
IsTold asked saving h reply =
    EndsTold asked saving h.course.program h.course.items h.budget reply ⊎ MemoryRanOut asked h.course.program h.course.items (run_of h.course) reply

-- the reports are written while the program runs: where they are asked for, and more workers than one
abbrev pub ReportsAreLive : RunOptions → Type 0
ReportsAreLive options = (1 < options.workers) × (options.watch ≢ None)

-- the run of the program by this chooser has these items, and leads there
abbrev pub IsRunBy : {C : Type 0} → List (PlainItem ℕ) → ℕ → Rules C → C → List Item → Run → Type 0
IsRunBy p budget rules chooser items r =
    let g = run_by (text_of p) budget rules chooser in (items ≡ g.items) × (r ≡ g.run)

-- It is the run that the seed chooses, by the words of its generator; without a seed the first that can be taken is always chosen.
abbrev pub IsChosen : List (PlainItem ℕ) → ℕ → Option ℕ → List Item → Run → Type 0
IsChosen p budget None items r = (first : First) × IsRunBy p budget by_first first items r
IsChosen p budget (Some seed) items r = IsRunBy p budget by_words (seeded seed) items r

-- a part of that run, from its beginning on, has these items, and leads there
abbrev pub IsPartBy : {C : Type 0} → List (PlainItem ℕ) → ℕ → Rules C → C → List Item → Run → Type 0
IsPartBy p budget rules chooser items r =
    (n : ℕ) × (let g = played (text_of p) budget rules n (begun_by (text_of p) chooser) in (items ≡ g.items) × (r ≡ g.run))

-- the same of the run that is chosen
abbrev pub IsPartChosen : List (PlainItem ℕ) → ℕ → Option ℕ → List Item → Run → Type 0
IsPartChosen p budget None items r = (first : First) × IsPartBy p budget by_first first items r
IsPartChosen p budget (Some seed) items r = IsPartBy p budget by_words (seeded seed) items r

-- What is told of a run, behind what was written of its reports to these errors. It came to its end, and with one worker it is the run that the seed
-- chooses. Or memory ran out, or a write of its reports failed; with one worker it is a part of that run, from its beginning on. Or the
-- reports that were written are not its own.
abbrev pub IsRunReply : PlainAsked → PlainSaving → List (PlainItem ℕ) → RunOptions → List Item → List PlainReport → Run → Passage → PlainReply → Type 0
IsRunReply asked saving p options items reports r errors reply =
    (AreTold reports errors × HasEnded options.steps options.watch items reports r × EndsTold asked saving p items options.steps reply
    × (options.workers ≡ 1 → IsChosen p options.steps options.seed items r))
    ⊎ (AreTold reports errors × MemoryRanOut asked p items r reply × (options.workers ≡ 1 → IsPartChosen p options.steps options.seed items r))
    ⊎ (AreCut reports errors × (reply ≡ broken) × (options.workers ≡ 1 → IsPartChosen p options.steps options.seed items r))
    ⊎ (ReportsAreLive options × AreForeign reports errors × (reply ≡ refusal (line (codes "foreign hub")) 1))

-- The program was run, and each row of two swaps that was taken is an exchange; and the run was told.
abbrev pub ProgramOutcome : PlainAsked → PlainSaving → List (PlainItem ℕ) → RunOptions → Passage → Passage → Shelf → ℕ → Type 0
ProgramOutcome asked saving p options output errors store status =
    (items : List Item) × (reports : List PlainReport) × (r : Run) × IsRunOf p options.watch items reports r × SwapsAreExchanges p [] items
    × RepliesAfter (IsRunReply asked saving p options items reports r) output errors store status

-- The run by the seed in this order came to its end, or memory ran out while it was told; or before. Where no seed is given, it is seed 0.
abbrev pub IsOrderedReply : PlainAsked → PlainSaving → List (PlainItem ℕ) → RunOptions → Order → PlainReply → Type 0
IsOrderedReply asked saving p options order reply =
    ((h : Kept) × IsSeedRun p options.steps order (unwrap_or options.seed 0) h × IsTold asked saving h reply) ⊎ (reply ≡ runs_out [])

-- the run by the seed in this order was made, and told
abbrev pub OrderedOutcome : PlainAsked → PlainSaving → List (PlainItem ℕ) → RunOptions → Order → Passage → Passage → Shelf → ℕ → Type 0
OrderedOutcome asked saving p options order output errors store status = Replies (IsOrderedReply asked saving p options order) output errors store status

-- The program was run: in this order, where one is said.
abbrev pub RunsSo : Option Order → PlainAsked → PlainSaving → List (PlainItem ℕ) → RunOptions → Passage → Passage → Shelf → ℕ → Type 0
RunsSo None asked saving p options output errors store status = ProgramOutcome asked saving p options output errors store status
RunsSo (Some order) asked saving p options output errors store status = OrderedOutcome asked saving p options order output errors store status

-- what is asked of the end of a run of this script, of which these properties are wanted
abbrev pub run_asked : RunOptions → Bool → PlainScript → List Property → PlainAsked
run_asked options explains s properties = record {
  explains = explains;
  strict = options.end.strict;
  servers = server_numbers s (server_names options.end);
  properties = properties;
  stops = options.stop;
}

-- The script was run, where it has the functions that are named as those of servers; or it has not, or memory ran out before.
abbrev pub ScriptOutcome : Bool → PlainScript → List Property → RunOptions → Passage → Passage → Shelf → ℕ → Type 0
ScriptOutcome explains s properties options output errors store status =
    ((first_unknown s (server_names options.end) ≡ None)
    × RunsSo (order_said options.turns options.priority) (run_asked options explains s properties) (saving_of options) s.program options output errors store
    status)
    ⊎ Replies (RefusalOf (IsNoFunction s (server_names options.end))) output errors store status

-- the same, where the arguments say what must hold of the run; or what is wrong with that is told
abbrev pub WantedOutcome : Bool → PlainScript → RunOptions → Passage → Passage → Shelf → ℕ → Type 0
WantedOutcome explains s options output errors store status =
    ((properties : List Property) × AreWanted options.properties alone store.before properties × ScriptOutcome explains s properties options output errors store status)
    ⊎ Replies (RefusalOf (IsUnwanted explains options.properties store.before)) output errors store status

-- `run`: the script that lies under the name was run; or it was not: no script lies there, which may be explained, it was not read, or memory ran out.
abbrev pub RunOutcome : RunOptions → Bool → Passage → Passage → Shelf → ℕ → Type 0
RunOutcome options explains output errors store status =
    ((s : PlainScript) × IsOpened (store.before options.file.now) s × WantedOutcome explains s options output errors store status)
    ⊎ Replies (RefusalOf (IsNoScript explains options.file.now (store.before options.file.now))) output errors store status

-- ---- what private functions say

-- the program was run, or memory ran out before it began
abbrev pub BegunOutcome : PlainAsked → PlainSaving → List (PlainItem ℕ) → RunOptions → Passage → Passage → Shelf → ℕ → Type 0
BegunOutcome asked saving p options output errors store status =
    ProgramOutcome asked saving p options output errors store status ⊎ Replies (λ reply. reply ≡ runs_out []) output errors store status

-- the same, as the arguments say what decides what happens next
abbrev pub SomehowOutcome : PlainAsked → PlainSaving → List (PlainItem ℕ) → RunOptions → Passage → Passage → Shelf → ℕ → Type 0
SomehowOutcome asked saving p options output errors store status =
    RunsSo (order_said options.turns options.priority) asked saving p options output errors store status
    ⊎ Replies (λ reply. reply ≡ runs_out []) output errors store status

-- the run of this hub was told
abbrev pub EndTold : PlainAsked → PlainSaving → Kept → Passage → Passage → Shelf → ℕ → Type 0
EndTold asked saving h output errors store status = Replies (IsTold asked saving h) output errors store status

-- a hub where its run stops, where it is to stop and does
abbrev pub IsStoppedIf : PlainAsked → Kept → Option Kept → Type 0
IsStoppedIf asked h other = MatchBool asked.stops (IsStoppedThere asked.properties h other) (other ≡ None)

-- The hub has run to its end, and its reports were written to the errors.
abbrev pub HasRun : Kept → Kept → Counted → Type 0
HasRun hub new errors = IsWorked hub new × Takes errors.bytes (reports_text new.reports) × (errors.counts.failed ≡ 0)

-- the hub has run alone, to its end, as this chooser makes the run
pub record Plays {C : Type 0} (rules : Rules C) (chooser : C) (hub new : Kept) : Type 0 where
  pub last : C
  pub plays : PlaysOut rules hub chooser new last

-- as the seed chooses
abbrev pub PlaysChosen : Option ℕ → Kept → Kept → Type 0
PlaysChosen None hub new = (first : First) × Plays by_first first hub new
PlaysChosen (Some seed) hub new = Plays by_words (seeded seed) hub new

-- the hub has run alone so far, as the seed chooses
abbrev pub PlaysPart : Option ℕ → Kept → Kept → Type 0
PlaysPart None hub new = (first : First) × PlaysSoFar by_first hub first new
PlaysPart (Some seed) hub new = PlaysSoFar by_words hub (seeded seed) new

-- how many writes to the errors have failed where this is why
abbrev pub failed_by : Cause → ℕ
failed_by cause.Write = 1
failed_by _ = 0

-- What was written of the reports, where this is why: all of them; a prefix of them; or where they are written while the program runs,
-- not all of them.
abbrev pub AreToldBy : RunOptions → Kept → Cause → Stream → Type 0
AreToldBy options h cause.Memory errors = Takes errors (reports_text h.reports)
AreToldBy options h cause.Write errors = TakesStart errors (reports_text h.reports)
AreToldBy options h cause.Foreign errors =
    ReportsAreLive options × ((seen : List PlainReport) × (seen ≢ h.reports) × BeginsWith h.reports seen × Takes errors (reports_text seen))

-- the hub has gone on so far, and is not told as one that has run to its end
abbrev pub IsStopped : RunOptions → Kept → Stopped → Counted → Type 0
IsStopped options hub stopped errors =
    GoesOnFrom hub stopped.hub × AreToldBy options stopped.hub stopped.cause errors.bytes × (errors.counts.failed ≡ failed_by stopped.cause)

-- the hub that the fault of a run of workers carries, and why it does
abbrev pub hub_of : WorkFault → Kept
hub_of (fault.Count hub) = hub
hub_of (fault.Memory hub) = hub
hub_of (fault.Start hub) = hub
hub_of (fault.Write hub) = hub
hub_of (fault.Foreign hub seen) = hub

abbrev pub cause_of : WorkFault → Cause
cause_of (fault.Write hub) = cause.Write
cause_of (fault.Foreign hub seen) = cause.Foreign
cause_of _ = cause.Memory

-- the number of workers was not at fault
abbrev pub IsCounted : WorkFault → Type 0
IsCounted (fault.Count hub) = ⊥
IsCounted _ = Unit {0}

-- what is told where the run was stopped for this
abbrev pub stop_reply : Kept → Cause → PlainReply
stop_reply h cause.Memory = runs_out h.course.output
stop_reply h cause.Write = broken
stop_reply h cause.Foreign = refusal (line (codes "foreign hub")) 1

-- a picture is saved only where the script is kept
abbrev pub wanted_of : Option (List ℕ) → Bool → Option (List ℕ)
wanted_of name true = name
wanted_of name false = None

abbrev pub plain_saving : Saving → PlainSaving
plain_saving s = record { schedule = option_map (λ name. name.now) s.schedule; picture = option_map (λ wanted. wanted.name.now) s.picture }

-- the picture of the run of a hub, or none where there is too much to draw
abbrev pub IsRunDrawn : Kept → Option (List ℕ) → Type 0
IsRunDrawn h (Some drawn) = IsDrawnFrom h.course.program h.budget h.course.items 1 (length h.course.items) drawn
IsRunDrawn h None = IsTooLongFrom h.course.program h.budget h.course.items 1 (length h.course.items)
