-- The command `step`: a run that is gone through by hand.
use Rattle.std.specs.Prelude.{◌≡◌, ◌⊎◌, ℕ, ◌==◌, Bool, true, false, if◌then◌else◌, List, [], ◌∷◌, ◌++◌, Option, Some, None, option_map, Result, Ok, Err}
use Rattle.cml_check.specs.Sizes.{size_of}
use Rattle.cml_check.specs.Syntax.{PlainItem}
use Rattle.cml_hub.specs.Courses.{run_of}
use Rattle.cml_hub.specs.Kept.{Kept, IsAtStart, NoneOut}
use Rattle.cml_hub.specs.Runs.{stands}
use Rattle.cml_schedule.specs.Written.{schedule_text}
use Rattle.cml_step.specs.Calls.{text_of}
use Rattle.cml_phrase.specs.Spots.{all_places}
use Rattle.cml_phrase.specs.declared.place.Place.{Place}
use Rattle.cml_stepper.specs.Replies.{AnswersLine, is_end}
use Rattle.cml_stepper.specs.Sessions.{Session}
use Rattle.cml_stepper.specs.Steppers.{places_known, FollowsTo}
use Rattle.cml_stepper.specs.declared.reply.Reply.{Reply}
use Rattle.cml_stepper.specs.declared.stepper.Stepper.{Stepper}
use Rattle.cml_stream.specs.Counts.{Calls}
use Rattle.cml_stream.specs.Streams.{Counted, Stream, IsIdle, IsSpent, IsUntouched, Supplies}
use Rattle.cml_trace.specs.Live.{max_turns, HasLiveCause}
use Rattle.cml_trace.specs.declared.fault.TraceFault.{TraceFault}
use Rattle.cml_trace.specs.declared.fault.TraceFault.TheVariants as fault
use Rattle.cml_arguments.specs.declared.StepOptions.{StepOptions}
use Rattle.cml_host.specs.Behind.{RepliesBehind, bytes_of, calls_of}
use Rattle.cml_host.specs.Narrated.{Writes}
use Rattle.cml_host.specs.Closed.{schedule_file}
use Rattle.cml_host.specs.Replies.{File, Passage, PlainReply, RefusalOf, runs_out}
use Rattle.cml_host.specs.Scripts.{PlainScript, IsNoScript, IsOpened}
use Rattle.cml_host.specs.Stores.{Content, Shelf}
use Rattle.cml_host.specs.Traced.{faulted}

-- how many steps the run may take by the schedule that is saved
abbrev pub stepped_budget : ℕ
stepped_budget = 1000000

-- what was typed of a line is one where that is not empty
abbrev pub begun_line : List ℕ → List (List ℕ)
begun_line [] = []
begun_line (b ∷ bytes) = (b ∷ bytes) ∷ []

-- The lines of these bytes, which come behind what was typed of the first of them. A line feed (10) ends a line; what stands behind the last
-- one is a line where it is not empty.
abbrev pub lines_typed : List ℕ → List ℕ → List (List ℕ)
lines_typed begun [] = begun_line begun
lines_typed begun (b ∷ bytes) = if b == 10 then begun ∷ lines_typed [] bytes else lines_typed (begun ++ b ∷ []) bytes

-- Of these bytes, which come behind what was typed of a line, these lines ended, and this is typed of the next one now: whatever comes behind
-- them goes on from there.
abbrev pub Leaves : List ℕ → List ℕ → List (List ℕ) → List ℕ → Type 0
Leaves begun bytes lines left = (more : List ℕ) → lines_typed begun (bytes ++ more) ≡ lines ++ lines_typed left more

-- These bytes came; all lines that ended were answered, which leads from one hub to another; and some text was written.
pub record TalksOn (places : List (List Place)) (old : Kept) (begun left : List ℕ) (new : Kept) (input output : Stream) : Type 0 where
  pub heard : List ℕ
  pub lines : List (List ℕ)
  pub came : Supplies input heard
  pub leaves : Leaves begun heard lines left
  pub session : Session places old lines false new
  pub wrote : Writes output

-- These bytes came, and all their lines were answered, up to one at which it ended, behind which nothing came; or they are all that the input has.
pub record TalksOut (places : List (List Place)) (old : Kept) (begun : List ℕ) (new : Kept) (input output : Stream) : Type 0 where
  pub heard : List ℕ
  pub ends : Bool
  pub came : Supplies input heard
  pub over : (ends ≡ true) ⊎ IsSpent input
  pub session : Session places old (lines_typed begun heard) ends new
  pub wrote : Writes output

-- These bytes came, and the first of their lines were answered.
pub record TalkIsCut (places : List (List Place)) (old : Kept) (begun : List ℕ) (input output : Stream) : Type 0 where
  pub heard : List ℕ
  pub first : List (List ℕ)
  pub rest : List (List ℕ)
  pub ends : Bool
  pub new : Kept
  pub came : Supplies input heard
  pub lines : lines_typed begun heard ≡ first ++ rest
  pub session : Session places old first ends new
  pub wrote : Writes output

-- What was read and written where it was not gone through to its end. Where a read failed, or there were as many as may be, all lines that
-- ended were answered.
abbrev pub IsNotHeld : List (List Place) → Kept → Stream → Stream → TraceFault → Type 0
IsNotHeld places start input output fault.Read = (begun : List ℕ) × (last : Kept) × TalksOn places start [] begun last input output
IsNotHeld places start input output fault.Turns = (begun : List ℕ) × (last : Kept) × TalksOn places start [] begun last input output
IsNotHeld places start input output fault.Write = TalkIsCut places start [] input output
IsNotHeld places start input output fault.Memory = TalkIsCut places start [] input output

-- When it ends so: each fault comes only where its call failed, or where the input was asked so often.
abbrev pub HasTalkCause : ℕ → Result (Unit {0}) TraceFault → Calls → Calls → Type 0
HasTalkCause turns (Ok done) input output = (input.failed ≡ 0) × (output.failed ≡ 0)
HasTalkCause turns (Err why) input output = HasLiveCause turns (Err why) input output

-- files are saved, and nothing is said
abbrev pub saves : List File → PlainReply
saves files = record { output = []; files = files; words = []; status = 0 }

-- the schedule is saved under the name, where one is given; or memory ran out
abbrev pub IsSaving : Option (List ℕ) → List ℕ → PlainReply → Type 0
IsSaving name schedule reply = (reply ≡ saves (schedule_file true name schedule)) ⊎ (reply ≡ runs_out [])

-- The run of the program was gone through to its end, its schedule leads where the hub stood then, and is to be saved, where that is asked for;
-- or it was cut off, which is told.
abbrev pub HubStepped : List (List Place) → List (PlainItem ℕ) → Option (List ℕ) → Kept → Counted → Passage → PlainReply → Type 0
HubStepped places p name start input output reply =
    ((last : Kept) × TalksOut places start [] last input.bytes (bytes_of output) × (input.counts.failed ≡ 0) × (output.new.failed ≡ 0)
    × (stands (text_of p) last.course.items ≡ Some (run_of last.course))
    × IsSaving name (schedule_text stepped_budget (size_of p) last.course.items) reply)
    ⊎ ((why : TraceFault) × IsNotHeld places start input.bytes (bytes_of output) why × HasLiveCause max_turns (Err why) input.counts (calls_of output)
    × (reply ≡ faulted why))

-- the same of a script, from the beginning of a run of its program on; or memory ran out before
abbrev pub ScriptStepped : StepOptions → PlainScript → Counted → Passage → PlainReply → Type 0
ScriptStepped options s input output reply =
    ((start : Kept) × IsAtStart s.program stepped_budget None start
    × HubStepped (all_places s.text s.forms) s.program (option_map (λ name. name.now) options.record) start input output reply)
    ⊎ ((reply ≡ runs_out []) × IsIdle input × (output.new ≡ output.old))

-- The run of the script that lies under the name was gone through by hand; or no script lies there, which is explained, it was not read,
-- or memory ran out, and nothing was read from the input or written to the output.
abbrev pub StepsSo : StepOptions → (List ℕ → Content) → Counted → Passage → PlainReply → Type 0
StepsSo options held input output reply =
    ((s : PlainScript) × IsOpened (held options.script.now) s × ScriptStepped options s input output reply)
    ⊎ (RefusalOf (IsNoScript true options.script.now (held options.script.now)) reply × IsIdle input × (output.new ≡ output.old))

-- `step`: that was done, and what was left to save and to say was
abbrev pub StepOutcome : StepOptions → Counted → Passage → Passage → Shelf → ℕ → Type 0
StepOutcome options input output errors store status = RepliesBehind (StepsSo options store.before input) output errors store status

-- ---- what private functions say

-- the stepper knows where the statements stand, and stands where the hub does, of which no slice is out
abbrev pub IsAtHand : List (List Place) → Kept → Stepper → Type 0
IsAtHand places h stepper = (places_known stepper ≡ places) × NoneOut h × FollowsTo h.course stepper

-- the line was answered
abbrev pub IsAnsweredBy : List (List Place) → Kept → List ℕ → Bool → Kept → Type 0
IsAnsweredBy places old typed ends new = (reply : Reply) × AnswersLine places old typed reply new × (ends ≡ is_end reply)

-- the line was not answered and nothing written, or it was answered
abbrev pub IsUnanswered : List (List Place) → Kept → List ℕ → Stream → Type 0
IsUnanswered places old typed output = IsUntouched output ⊎ ((ends : Bool) × (new : Kept) × IsAnsweredBy places old typed ends new × Writes output)

-- what a turn did, by whether it is over
abbrev pub IsTurnTaken : List (List Place) → Kept → List ℕ → Bool → List ℕ → Kept → Stream → Stream → Type 0
IsTurnTaken places old begun true left new input output = TalksOut places old begun new input output
IsTurnTaken places old begun false left new input output = TalksOn places old begun left new input output

-- what a turn did that came to a fault
abbrev pub IsTurnLost : List (List Place) → Kept → List ℕ → Stream → Stream → TraceFault → Type 0
IsTurnLost places old begun input output fault.Read = IsUntouched input × IsUntouched output
IsTurnLost places old begun input output fault.Turns = ⊥
IsTurnLost places old begun input output fault.Write = TalkIsCut places old begun input output
IsTurnLost places old begun input output fault.Memory = TalkIsCut places old begun input output
