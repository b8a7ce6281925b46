-- What every schedule gives, in a form that a program reads: a line of JSON for each outcome, and one for the search.
use Rattle.std.specs.Prelude.{◌≡◌, ◌≢◌, ◌⊎◌, ℕ, suc, ◌≤◌, nat_le, Bool, true, false, List, [], ◌∷◌, ◌++◌, length, map, codes, Option, Some, None, IfSome, is_none, option_map, Contains, Vec}
use Rattle.std.specs.BTreeMap.{BTreeMap, get_by}
use Rattle.std.specs.Cmp.Lexicographic.{slice_cmp}
use Rattle.std.specs.Fmt.{decimal}
use Rattle.std.specs.List.{All, flat_map}
use Rattle.std.specs.List.Sorted.{IsStrictlySortedBy}
use Rattle.std.specs.Ordering.{nat_cmp}
use Rattle.std.specs.declared.alloc.Global.{Global}
use Rattle.cml_arguments.specs.Words.{saved_name}
use Rattle.cml_check.specs.Sizes.{size_of}
use Rattle.cml_check.specs.Syntax.{Name, PlainItem}
use Rattle.cml_explore.specs.declared.outcome.ThreadEnd.{ThreadEnd}
use Rattle.cml_explore.specs.declared.outcome.ThreadEnd.TheVariants.{Ended, Waits, Fault}
use Rattle.cml_explore.specs.Outcomes.{PlainOutcome, GivesOutcome}
use Rattle.cml_schedule.specs.Written.{schedule_text}
use Rattle.cml_schedule.specs.declared.item.Item.{Item}
use Rattle.cml_text.specs.Lines.{line, lines}
use Rattle.cml_json.specs.Json.{array, commas, member, object, json_string, truth}
use Rattle.cml_host.specs.Replies.{File, file}
use Rattle.cml_host.specs.declared.outcomes.OutcomeTold.{OutcomeTold}

-- ---- an outcome

-- the name of an end
abbrev pub end_name : ThreadEnd → List ℕ
end_name Ended = codes "ended"
end_name Waits = codes "waits"
end_name Fault = codes "fault"

-- what is printed, line by line
abbrev pub lines_text : List ℕ → List ℕ
lines_text output = array (map json_string (lines output))

-- how the threads are left, by number
abbrev pub ends_text : List ThreadEnd → List ℕ
ends_text ends = array (map (λ end. json_string (end_name end)) ends)

-- what a schedule gives, as two members of an object
abbrev pub outcome_text : PlainOutcome → List ℕ
outcome_text o = commas (member (codes "lines") (lines_text o.output) ∷ member (codes "threads") (ends_text o.threads) ∷ [])

-- the schedule gives what this text says
abbrev pub GivesText : List (PlainItem ℕ) → List Item → List ℕ → Type 0
GivesText p schedule text = (o : PlainOutcome) × GivesOutcome p schedule o × (text ≡ outcome_text o)

-- ---- the outcomes of schedules

-- the text of an outcome, and a schedule that gives it
pub record PlainOutcomeTold : Type 0 where
  pub text : List ℕ
  pub schedule : List Item

-- These are the outcomes of the schedules: each is that of one of them, and that of each schedule is among them, with one that has no more items.
-- They stand in the order of the bytes of their texts, and each once.
pub record AreOutcomes (p : List (PlainItem ℕ)) (schedules : List (List Item)) (told : List PlainOutcomeTold) : Type 0 where
  pub each : All (λ t. Contains schedules t.schedule × GivesText p t.schedule t.text) told
  pub all : All (λ schedule. (t : PlainOutcomeTold) × Contains told t × GivesText p schedule t.text × (length t.schedule ≤ length schedule)) schedules
  pub ordered : IsStrictlySortedBy (slice_cmp nat_cmp) (map (λ t. t.text) told)

-- ---- how they are told

-- the line of an outcome: what the schedule gives, and how many items it has
abbrev pub told_line : PlainOutcomeTold → List ℕ
told_line t = line (object (t.text ∷ member (codes "items") (decimal (length t.schedule)) ∷ []))

-- up to how many items the schedules were examined, if not all were
abbrev pub reach_members : Option ℕ → List (List ℕ)
reach_members None = []
reach_members (Some items) = member (codes "items") (decimal items) ∷ []

-- the last line: how many states there are, and whether all schedules were examined
abbrev pub search_line : ℕ → Option ℕ → List ℕ
search_line states reach = line (object (member (codes "states") (decimal states) ∷ member (codes "whole") (truth (is_none reach)) ∷ reach_members reach))

abbrev pub outcomes_text : List PlainOutcomeTold → ℕ → Option ℕ → List ℕ
outcomes_text told states reach = flat_map told_line told ++ search_line states reach

-- ---- what is saved of them

-- the file of an outcome that is told in this place
abbrev pub outcome_file : Name → List (PlainItem ℕ) → ℕ → PlainOutcomeTold → File
outcome_file start p place t = file true (saved_name start (decimal place)) (schedule_text 1000000 (size_of p) t.schedule)

-- those of these outcomes, of which the first is told in this place
abbrev pub files_of : Name → List (PlainItem ℕ) → ℕ → List PlainOutcomeTold → List File
files_of start p place [] = []
files_of start p place (t ∷ told) = outcome_file start p place t ∷ files_of start p (suc place) told

-- the files that are asked for
abbrev pub outcome_files : Option Name → List (PlainItem ℕ) → List PlainOutcomeTold → List File
outcome_files None p told = []
outcome_files (Some start) p told = files_of start p 1 told

-- ---- what private functions say

abbrev pub plain_outcome_told : OutcomeTold → PlainOutcomeTold
plain_outcome_told t = record { text = t.text.items; schedule = t.schedule.items }

-- schedules, by the texts of what they give
abbrev pub TextMap : Type 0
TextMap = BTreeMap (Vec ℕ Global) (Vec Item Global)

abbrev pub entry_told : Vec ℕ Global × Vec Item Global → PlainOutcomeTold
entry_told e = record { text = e.0.items; schedule = e.1.items }

-- the schedule by this text, if there is one
abbrev pub kept_by : TextMap → List ℕ → Option (List Item)
kept_by found text = option_map (λ schedule. schedule.items) (get_by (λ key. slice_cmp nat_cmp text key.items) found)

-- there is one, and it has no more items than so many
abbrev pub is_as_short : Option (List Item) → ℕ → Bool
is_as_short None items = false
is_as_short (Some schedule) items = nat_le (length schedule) items

-- The schedule was noted by this text: this one or the older one is kept, which has no more items than either. All others are as they were.
pub record Notes (old : TextMap) (text : List ℕ) (schedule : List Item) (new : TextMap) : Type 0 where
  pub kept : List Item
  pub here : kept_by new text ≡ Some kept
  pub one : (kept ≡ schedule) ⊎ (kept_by old text ≡ Some kept)
  pub short : length kept ≤ length schedule
  pub shorter : IfSome (kept_by old text) (λ before. length kept ≤ length before)
  pub others : (other : List ℕ) → other ≢ text → kept_by new other ≡ kept_by old other

-- Of these schedules that is kept: each gives what its text says, and for each one is kept that gives the same and has no more items.
pub record AreFound (p : List (PlainItem ℕ)) (schedules : List (List Item)) (found : TextMap) : Type 0 where
  pub each : (text : List ℕ) (schedule : List Item) → kept_by found text ≡ Some schedule → Contains schedules schedule × GivesText p schedule text
  pub all : All (λ schedule. (text : List ℕ) × (kept : List Item) × (kept_by found text ≡ Some kept) × GivesText p schedule text × (length kept ≤ length schedule)) schedules
