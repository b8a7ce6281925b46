-- The command `shrink`: what it makes of the schedule of a script.
use Rattle.std.specs.Prelude.{◌≡◌, ◌⊎◌, ℕ, List, [], true, codes, None}
use Rattle.cml_check.specs.Sizes.{size_of}
use Rattle.cml_check.specs.Syntax.{PlainItem}
use Rattle.cml_schedule.specs.Plans.{PlainPlan}
use Rattle.cml_schedule.specs.Written.{schedule_text}
use Rattle.cml_judge.specs.Stops.{StopsAfter}
use Rattle.cml_properties.specs.declared.property.Property.{Property}
use Rattle.cml_explore.specs.Shrinking.{PlainShrunk, IsShrunk}
use Rattle.cml_explore.specs.declared.shrink.replay.Asked.{Asked}
use Rattle.cml_step.specs.Calls.{text_of}
use Rattle.cml_text.specs.Lines.{line}
use Rattle.cml_arguments.specs.declared.ShrinkOptions.{ShrinkOptions}
use Rattle.cml_host.specs.Plans.{AreBoth, AreNotBoth}
use Rattle.cml_host.specs.Refused.{Fault}
use Rattle.cml_host.specs.Replaying.{HasBadItem}
use Rattle.cml_host.specs.Replies.{PlainReply, RefusalOf}
use Rattle.cml_host.specs.Scripts.{PlainScript}
use Rattle.cml_host.specs.Stores.{Content}
use Rattle.cml_host.specs.Wanted.{AreWanted, IsUnwanted, alone}

-- this is the text of a shorter schedule than that of the plan, of a program of its size
abbrev pub IsShorter : List (PlainItem ℕ) → Asked → PlainPlan → List ℕ → Type 0
IsShorter p asked plan schedule =
    (found : PlainShrunk) × IsShrunk p asked plan.items found × (schedule ≡ schedule_text plan.budget (size_of p) found.items)

-- its text is the output; how long both are is said, and nothing is saved
abbrev pub GivesShorter : List (PlainItem ℕ) → Asked → PlainPlan → PlainReply → Type 0
GivesShorter p asked plan reply = IsShorter p asked plan reply.output × (reply.files ≡ []) × (reply.status ≡ 0)

-- the run by the schedule is to stop where it breaks something, however it goes on, and does so at no item
abbrev pub BreaksNothing : List (PlainItem ℕ) → Asked → PlainPlan → Fault
BreaksNothing p asked plan told status =
    (asked.stops ≡ true) × StopsAfter asked.properties.now (text_of p) plan.items None × (told ≡ line (codes "schedule breaks nothing before its end")) × (status ≡ 3)

abbrev pub IsNotShorter : List (PlainItem ℕ) → Asked → PlainPlan → Fault
IsNotShorter p asked plan told status = HasBadItem true p plan told status ⊎ BreaksNothing p asked plan told status

-- what is asked for, as the arguments and the plan say, where these properties are wanted
pub record AsksToShrink (options : ShrinkOptions) (plan : PlainPlan) (properties : List Property) (asked : Asked) : Type 0 where
  pub budget : asked.budget ≡ plan.budget
  pub tries : asked.tries ≡ options.tries
  pub wanted : asked.properties.now ≡ properties
  pub stops : asked.stops ≡ options.stop

-- it is one for the schedule that lies under its name, of the script that lies under its own
abbrev pub IsShorterFor : ShrinkOptions → (List ℕ → Content) → PlainReply → Type 0
IsShorterFor options held reply =
    (s : PlainScript) × (plan : PlainPlan) × AreBoth options.script.now options.schedule.now held s plan
    × ((properties : List Property) × AreWanted options.properties alone held properties
    × ((asked : Asked) × AsksToShrink options plan properties asked × GivesShorter s.program asked plan reply))

-- why there is none
abbrev pub IsUnshrunk : ShrinkOptions → (List ℕ → Content) → Fault
IsUnshrunk options held told status =
    AreNotBoth options.script.now options.schedule.now held told status
    ⊎ IsUnwanted true options.properties held told status
    ⊎ ((s : PlainScript) × (plan : PlainPlan) × AreBoth options.script.now options.schedule.now held s plan
    × ((properties : List Property) × AreWanted options.properties alone held properties
    × ((asked : Asked) × AsksToShrink options plan properties asked × IsNotShorter s.program asked plan told status)))

-- `shrink`: a shorter schedule, or why there is none
abbrev pub ShrinkOutcome : ShrinkOptions → (List ℕ → Content) → PlainReply → Type 0
ShrinkOutcome options held reply = IsShorterFor options held reply ⊎ RefusalOf (IsUnshrunk options held) reply
