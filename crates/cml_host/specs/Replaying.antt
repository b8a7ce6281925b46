-- The command `replay`: what it does with a script and a schedule.
use Rattle.std.specs.Prelude.{◌≡◌, ◌⊎◌, ℕ, Bool, List, Option, None}
use Rattle.cml_check.specs.Syntax.{PlainItem}
use Rattle.cml_hub.specs.Courses.{run_of}
use Rattle.cml_hub.specs.Kept.{Kept, IsFirstBad, IsReplayed}
use Rattle.cml_hub.specs.Runs.{Run}
use Rattle.cml_schedule.specs.Reports.{PlainReport}
use Rattle.cml_schedule.specs.Plans.{PlainPlan}
use Rattle.cml_schedule.specs.declared.item.Item.{Item}
use Rattle.cml_arguments.specs.declared.ReplayOptions.{ReplayOptions}
use Rattle.cml_host.specs.Stores.{Content, Shelf}
use Rattle.cml_host.specs.Refused.{Fault}
use Rattle.cml_host.specs.Plans.{IsPlanFor, IsNoPlanFor, IsItemTold}
use Rattle.cml_host.specs.Behind.{RepliesAfter}
use Rattle.cml_host.specs.Replies.{Passage, PlainReply, RefusalOf, Replies, broken, runs_out}
use Rattle.cml_host.specs.Scripts.{PlainScript, IsOpened, IsNoScript}
use Rattle.cml_host.specs.Servers.{IsNoFunction, first_unknown, server_numbers, server_names}
use Rattle.cml_host.specs.Told.{IsRunOf, AllReported, AreTold, AreCut}
use Rattle.cml_host.specs.Closed.{PlainAsked}
use Rattle.cml_host.specs.Running.{EndsTold, PlainSaving, MemoryRanOut}
use Rattle.cml_host.specs.Wanted.{AreWanted, IsUnwanted, alone}
use Rattle.cml_properties.specs.declared.property.Property.{Property}

-- the schedule has an item that is not allowed where it stands, and this tells the first such
abbrev pub HasBadItem : Bool → List (PlainItem ℕ) → PlainPlan → Fault
HasBadItem explains p plan told status = ((n : ℕ) × IsFirstBad p plan.items n × IsItemTold explains n told) × (status ≡ 3)

-- why the program does not follow the schedule that lies there under this name
abbrev pub IsNotFollowed : Bool → List ℕ → Content → List (PlainItem ℕ) → Fault
IsNotFollowed explains name content p told status =
    IsNoPlanFor explains name content p told status ⊎ ((plan : PlainPlan) × IsPlanFor content p plan × HasBadItem explains p plan told status)

-- nothing is saved
abbrev pub saves_nothing : PlainSaving
saves_nothing = record { schedule = None; picture = None }

-- What is told of the run to which the schedule leads, behind what was written of its reports to these errors: how it is closed, or its output so far
-- and that memory ran out; or that a write of them failed.
abbrev pub IsReplayReply : PlainAsked → List (PlainItem ℕ) → ℕ → List Item → List PlainReport → Run → Passage → PlainReply → Type 0
IsReplayReply asked p budget items reports r errors reply =
    (AreTold reports errors × (EndsTold asked saves_nothing p items budget reply ⊎ MemoryRanOut asked p items r reply)) ⊎ (AreCut reports errors × (reply ≡ broken))

-- The program followed the schedule, and where it led was told.
abbrev pub PlanOutcome : PlainAsked → List (PlainItem ℕ) → Option ℕ → PlainPlan → Passage → Passage → Shelf → ℕ → Type 0
PlanOutcome asked p watch plan output errors store status =
    (reports : List PlainReport) × (r : Run) × IsRunOf p watch plan.items reports r × AllReported watch plan.items reports
    × RepliesAfter (IsReplayReply asked p plan.budget plan.items reports r) output errors store status

-- The schedule that lies there was followed; or something is wrong with it, and the errors tell what; or it was not read, or memory ran
-- out.
abbrev pub ScheduleOutcome : PlainAsked → List (PlainItem ℕ) → Option ℕ → List ℕ → Content → Passage → Passage → Shelf → ℕ → Type 0
ScheduleOutcome asked p watch name content output errors store status =
    ((plan : PlainPlan) × IsPlanFor content p plan × PlanOutcome asked p watch plan output errors store status)
    ⊎ Replies (RefusalOf (IsNotFollowed asked.explains name content p)) output errors store status

-- what is asked of the end of a run of this script
abbrev pub replay_asked : ReplayOptions → Bool → PlainScript → List Property → PlainAsked
replay_asked options explains s properties = record {
  explains = explains;
  strict = options.end.strict;
  servers = server_numbers s (server_names options.end);
  properties = properties;
  stops = options.stop;
}

-- The script was run by the schedule, where it has the functions that are named as those of servers; or it has not.
abbrev pub ScriptReplayed : Bool → PlainScript → List Property → ReplayOptions → Content → Passage → Passage → Shelf → ℕ → Type 0
ScriptReplayed explains s properties options content output errors store status =
    ((first_unknown s (server_names options.end) ≡ None)
    × ScheduleOutcome (replay_asked options explains s properties) s.program options.watch options.schedule.now content output errors store status)
    ⊎ Replies (RefusalOf (IsNoFunction s (server_names options.end))) output errors store status

-- the same, where the arguments say what must hold of the run; or what is wrong with that is told
abbrev pub WantedReplayed : Bool → PlainScript → ReplayOptions → Passage → Passage → Shelf → ℕ → Type 0
WantedReplayed explains s options output errors store status =
    ((properties : List Property) × AreWanted options.properties alone store.before properties
    × ScriptReplayed explains s properties options (store.before options.schedule.now) output errors store status)
    ⊎ Replies (RefusalOf (IsUnwanted explains options.properties store.before)) output errors store status

-- `replay`: the script that lies under its name was run by the schedule that lies under its own, or that schedule was refused; or the
-- script was not run: no script lies there, which may be explained, it was not read, or memory ran out.
abbrev pub ReplayOutcome : ReplayOptions → Bool → Passage → Passage → Shelf → ℕ → Type 0
ReplayOutcome options explains output errors store status =
    ((s : PlainScript) × IsOpened (store.before options.script.now) s
    × WantedReplayed explains s options output errors store status)
    ⊎ Replies (RefusalOf (IsNoScript explains options.script.now (store.before options.script.now))) output errors store status

-- ---- what private functions say

-- the program followed the schedule that lies there, and this hub stands at its end
abbrev pub IsHubOf : List (PlainItem ℕ) → Option ℕ → Content → Kept → Type 0
IsHubOf p watch content hub = (plan : PlainPlan) × IsPlanFor content p plan × IsReplayed p plan.budget watch plan.items hub

-- where this hub stands was told, which is a run of its program
abbrev pub ReplayTold : PlainAsked → Kept → Passage → Passage → Shelf → ℕ → Type 0
ReplayTold asked h output errors store status =
    IsRunOf h.course.program h.watch h.course.items h.reports (run_of h.course)
    × RepliesAfter (IsReplayReply asked h.course.program h.budget h.course.items h.reports (run_of h.course)) output errors store status
