-- How a run is closed that has come to its end: with which status.
use Rattle.std.specs.Prelude.{◌≡◌, ◌&&◌, ◌||◌, not, nat_lt, ℕ, Bool, true, false, if◌then◌else◌, List, [], ◌∷◌, Option, Some, None, is_some}
use Rattle.cml_check.specs.Sizes.{size_of}
use Rattle.cml_check.specs.Syntax.{PlainItem}
use Rattle.cml_facts.specs.Stuck.{is_stuck}
use Rattle.cml_hub.specs.Courses.{run_of}
use Rattle.cml_hub.specs.Deeds.{fault_count}
use Rattle.cml_hub.specs.Kept.{Kept}
use Rattle.cml_hub.specs.Runs.{Run, ending}
use Rattle.cml_judge.specs.Judgements.{IsJudgedAlone, are_all_kept}
use Rattle.cml_properties.specs.declared.property.Property.{Property}
use Rattle.cml_schedule.specs.Written.{schedule_text}
use Rattle.cml_schedule.specs.declared.item.Item.{Item}
use Rattle.cml_step.specs.Calls.{text_of}
use Rattle.cml_host.specs.Replies.{File, PlainReply, file}
use Rattle.cml_host.specs.Told.{end_status, whole_output}
use Rattle.cml_host.specs.declared.close.Asked.{Asked}
use Rattle.cml_host.specs.declared.close.Closing.{Closing}

-- What is asked of the end of a run: whether it is explained; whether it is judged strictly; the numbers of the functions of servers; what must
-- hold of the run; and whether it stops where that does not hold.
pub record PlainAsked : Type 0 where
  pub explains : Bool
  pub strict : Bool
  pub servers : List ℕ
  pub properties : List Property
  pub stops : Bool

-- something is asked for
abbrev pub is_asked : {A : Type 0} → List A → Bool
is_asked [] = false
is_asked (a ∷ rest) = true

-- the run is to stop where a thread ends at a fault, and one has
abbrev pub has_a_fault : PlainAsked → Kept → Bool
has_a_fault asked h = asked.stops && nat_lt 0 (fault_count (text_of h.course.program) h.course.items)

-- A property is broken, the run stops at a fault, or it is judged strictly and is stuck, which is where nothing is left to do and a thread waits that is
-- no server, or a thread ended at a fault.
abbrev pub is_unwell : PlainAsked → Kept → Bool → Bool
is_unwell asked h kept = not kept || (has_a_fault asked h || (asked.strict && is_stuck asked.servers h))

-- the status: 6 where that is so; else that of its end
abbrev pub closing_status : PlainAsked → Kept → Bool → ℕ
closing_status asked h kept = if is_unwell asked h kept then 6 else end_status (ending h.budget (run_of h.course))

-- a hub of this program, under this budget, that these items have led to where this run stands
pub record IsHubAt (p : List (PlainItem ℕ)) (budget : ℕ) (items : List Item) (r : Run) (h : Kept) : Type 0 where
  pub program : h.course.program ≡ p
  pub budget_is : h.budget ≡ budget
  pub items_are : h.course.items ≡ items
  pub run_is : run_of h.course ≡ r

-- these may be the words that are said of the end: any, where it is explained; else none
abbrev pub MaySay : Bool → List ℕ → Type 0
MaySay true words = Unit {0}
MaySay false words = words ≡ []

-- the run of this hub is closed with these words and this status
abbrev pub ClosesSo : PlainAsked → Kept → List ℕ → ℕ → Type 0
ClosesSo asked h words status =
    (judged : List (Option ℕ)) × IsJudgedAlone asked.properties h judged × MaySay (asked.explains || is_asked asked.properties) words
    × (status ≡ closing_status asked h (are_all_kept judged))

-- the schedule as a file of this name, where one is given
abbrev pub schedule_file : Bool → Option (List ℕ) → List ℕ → List File
schedule_file explains None schedule = []
schedule_file explains (Some name) schedule = file explains name schedule ∷ []

-- What is told of a run that has come to its end: its output with the end line; its schedule is saved, where that is asked for; and then it is said
-- what there is to say of what must hold of it, and how it ended.
abbrev pub IsClosed : PlainAsked → Option (List ℕ) → List (PlainItem ℕ) → List Item → ℕ → Run → PlainReply → Type 0
IsClosed asked save_as p items budget r reply =
    (h : Kept) × IsHubAt p budget items r h × (reply.output ≡ whole_output budget r)
    × (reply.files ≡ schedule_file asked.explains save_as (schedule_text budget (size_of p) items)) × ClosesSo asked h reply.words reply.status

-- ---- what private functions say

-- the end is explained where that is asked for and the script is kept
abbrev pub plain_asked : Asked → PlainAsked
plain_asked a = record {
  explains = a.explains && is_some a.subject;
  strict = a.strict;
  servers = a.servers.items;
  properties = a.properties.items;
  stops = a.stops;
}

-- the run of this hub is closed so
abbrev pub IsClosing : PlainAsked → Kept → Closing → Type 0
IsClosing asked h closing = ClosesSo asked h closing.words.items closing.status
