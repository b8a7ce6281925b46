-- The command `verify`: what is told of every schedule of a script, and what is saved of them.
use Rattle.std.specs.Prelude.{◌≡◌, ◌⊎◌, ℕ, Bool, MatchBool, true, false, not, ◌&&◌, ◌||◌, ◌==◌, if◌then◌else◌, List, [], length, map, codes, Option, None, Some, is_some, option_map}
use Rattle.cml_arguments.specs.declared.VerifyOptions.{VerifyOptions}
use Rattle.cml_check.specs.Syntax.{Name, PlainItem}
use Rattle.cml_explore.specs.Classes.{PlainClass}
use Rattle.cml_explore.specs.Ends.{AreEndsTold, IsGathered}
use Rattle.cml_explore.specs.Explored.{PlainExplored}
use Rattle.cml_explore.specs.FaultsTold.{AreFaultsTold}
use Rattle.cml_explore.specs.declared.ends.EndsTold.{EndsTold}
use Rattle.cml_explore.specs.declared.fault_told.FaultTold.{FaultTold}
use Rattle.cml_json.specs.Verdicts.{verify_json}
use Rattle.cml_phrase.specs.Spots.{all_places}
use Rattle.cml_schedule.specs.declared.item.Item.{Item}
use Rattle.cml_text.specs.Lines.{line}
use Rattle.cml_step.specs.Calls.{text_of}
use Rattle.cml_verify.specs.Faults.{AreFaults, IsUnending}
use Rattle.cml_verify.specs.Verdicts.{IsVerdict}
use Rattle.cml_verify.specs.declared.every.Verdict.{Verdict}
use Rattle.cml_host.specs.Exploring.{files_from}
use Rattle.cml_host.specs.Outcomes.{AreOutcomes, PlainOutcomeTold, outcome_files, outcomes_text}
use Rattle.cml_host.specs.Refused.{Fault}
use Rattle.cml_host.specs.Replies.{File, PlainReply, RefusalOf}
use Rattle.cml_host.specs.Scripts.{PlainScript, IsNoScript, IsOpened}
use Rattle.cml_host.specs.Servers.{IsNoFunction, first_unknown, server_numbers}
use Rattle.cml_host.specs.Stores.{Content}

-- ---- what is found

-- the schedules to the ends that a search found
abbrev pub ends_of : Verdict → List (List Item)
ends_of v = map (λ schedule. schedule.items) v.ends.items

-- the schedules by whose last items threads end at faults that it found
abbrev pub faults_of : Verdict → List (List Item)
faults_of v = map (λ schedule. schedule.items) v.faults.items

-- the schedule without end that it found, if it found one
abbrev pub unending_of : Verdict → Option (List Item)
unending_of v = option_map (λ schedule. schedule.items) v.unending

-- A search of every schedule, up to so many states, found this.
pub record IsSearched (p : List (PlainItem ℕ)) (with_output : Bool) (bound : ℕ) (v : Verdict) : Type 0 where
  pub ends : IsVerdict p with_output bound v.reach (ends_of v) v.states
  pub faults : AreFaults (text_of p) v.reach (faults_of v)
  pub unending : IsUnending (text_of p) v.reach (unending_of v)

-- Nothing bad was found: all ends are good, no thread ends at a fault, and each schedule can go on to an end, where that counts.
abbrev pub is_clean : Bool → Bool → Verdict → Bool
is_clean endless well v = well && (length v.faults.items == 0 && (endless || not (is_some v.unending)))

-- with `--json` this is written of what was found
abbrev pub FoundWritten : VerifyOptions → PlainScript → List ℕ → Verdict → EndsTold → List FaultTold → Bool → List ℕ → Type 0
FoundWritten options s servers v ends faults clean said = options.json ≡ true
    → said ≡ verify_json options.script.now s.forms servers v.states v.reach ends faults (option_map length (unending_of v)) clean

-- Every schedule of the script was examined, up to so many states: the runs are those to the ends of a verdict, in classes of those that ended
-- alike, that is told of them, and of its faults, and that is written.
pub record IsExamined (s : PlainScript) (options : VerifyOptions) (servers : List ℕ) (reach : Option ℕ) (clean : Bool) (made : PlainExplored) (told : EndsTold) (said : List ℕ) : Type 0 where
  pub verdict : Verdict
  pub found : IsSearched s.program false options.states verdict
  pub reach_is : reach ≡ verdict.reach
  pub gathered : IsGathered s.program servers (ends_of verdict) made
  pub told_are : AreEndsTold (all_places s.text s.forms) s.program servers made.classes told
  pub faults : List FaultTold
  pub faults_are : AreFaultsTold (all_places s.text s.forms) s.program (faults_of verdict) faults
  pub clean_is : clean ≡ is_clean options.endless made.well verdict
  pub said_is : FoundWritten options s servers verdict told faults clean said

-- ---- how it is told, and what is saved

-- the status: something bad was found; or nothing was, and the bound was reached, or not
abbrev pub verdict_status : Option ℕ → Bool → ℕ
verdict_status reach clean = if clean then (if is_some reach then 4 else 0) else 6

-- the files that the arguments ask for: the shortest schedule of each class, in the order in which they are told
abbrev pub end_files : Option Name → List (PlainItem ℕ) → List PlainClass → List ℕ → List File
end_files None p classes order = []
end_files (Some start) p classes order = files_from start 1000000 p classes 1 order

-- the names of files begin so
abbrev pub ends_start : VerifyOptions → Option Name
ends_start options = option_map (λ start. start.now) options.save

-- the names of the functions of servers that the arguments give
abbrev pub verified_servers : VerifyOptions → List Name
verified_servers options = map (λ name. name.now) options.servers.items

-- This text is written of what was found; the files that are asked for are saved; and the status says whether something bad was found, and whether all was
-- examined.
abbrev pub VerdictTold : VerifyOptions → List (PlainItem ℕ) → Option ℕ → Bool → PlainExplored → EndsTold → List ℕ → PlainReply → Type 0
VerdictTold options p reach clean made told said reply =
    (reply.output ≡ said) × (reply.files ≡ end_files (ends_start options) p made.classes told.order.items) × (reply.words ≡ []) × (reply.status ≡ verdict_status reach clean)

-- the script was examined, and it is told how its schedules end
abbrev pub TellsEnds : VerifyOptions → PlainScript → List ℕ → PlainReply → Type 0
TellsEnds options s servers reply =
    (reach : Option ℕ) × (clean : Bool) × (made : PlainExplored) × (told : EndsTold) × (said : List ℕ) × IsExamined s options servers reach clean made told said
    × VerdictTold options s.program reach clean made told said reply

-- these outcomes, and what the search came to; a file for each, where that is asked for; and the status
abbrev pub outcomes_reply : Option Name → List (PlainItem ℕ) → ℕ → Option ℕ → List PlainOutcomeTold → ℕ → PlainReply
outcomes_reply start p states reach told status = record {
  output = outcomes_text told states reach;
  files = outcome_files start p told;
  words = [];
  status = status;
}

-- Every schedule of the script was examined, up to so many states, with what it prints. The outcomes of those of a verdict are told, and the
-- status says whether something bad was found, and whether all was examined.
pub record TellsOutcomes (options : VerifyOptions) (s : PlainScript) (servers : List ℕ) (reply : PlainReply) : Type 0 where
  pub verdict : Verdict
  pub found : IsSearched s.program true options.states verdict
  pub made : PlainExplored
  pub gathered : IsGathered s.program servers (ends_of verdict) made
  pub told : List PlainOutcomeTold
  pub outcomes : AreOutcomes s.program (ends_of verdict) told
  pub reply_is : reply ≡ outcomes_reply (ends_start options) s.program verdict.states verdict.reach told
      (verdict_status verdict.reach (is_clean options.endless made.well verdict))

-- what was asked for: how the schedules end, or what each gives
abbrev pub ProgramVerified : VerifyOptions → PlainScript → List ℕ → PlainReply → Type 0
ProgramVerified options s servers reply = MatchBool options.outcomes (TellsOutcomes options s servers reply) (TellsEnds options s servers reply)

-- a thread does not stand in the script, which does not come about
abbrev pub IsAstray : Fault
IsAstray told status = (told ≡ line (codes "foreign thread")) × (status ≡ 1)

-- the same, where the script has the functions that are named as those of servers, or there is no verdict; or it has not
abbrev pub ScriptVerified : VerifyOptions → PlainScript → PlainReply → Type 0
ScriptVerified options s reply =
    ((first_unknown s (verified_servers options) ≡ None)
    × (ProgramVerified options s (server_numbers s (verified_servers options)) reply ⊎ RefusalOf IsAstray reply))
    ⊎ RefusalOf (IsNoFunction s (verified_servers options)) reply

-- `verify`: every schedule of the script that lies under the name was examined, up to the bound, and it is told how they end, or what they give.
-- Or there is no verdict. Or no script lies there, which is explained, it was not read, or memory ran out.
abbrev pub VerifyOutcome : VerifyOptions → (List ℕ → Content) → PlainReply → Type 0
VerifyOutcome options held reply =
    ((s : PlainScript) × IsOpened (held options.script.now) s × ScriptVerified options s reply)
    ⊎ RefusalOf (IsNoScript true options.script.now (held options.script.now)) reply
