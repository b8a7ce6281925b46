-- The command `explain`: what it tells of the items of a schedule, and of the end to which they lead.
use Rattle.std.specs.Prelude.{◌≡◌, ◌⊎◌, ℕ, ◌+◌, ◌≤◌, ◌&&◌, Bool, true, false, not, nat_le, nat_lt, List, [], ◌∷◌, ◌++◌, length, take, drop, Option, Some, None}
use Rattle.cml_picture.specs.Draws.{ItemsLead}
use Rattle.cml_hub.specs.Courses.{PlainCourse}
use Rattle.cml_hub.specs.Kept.{Kept}
use Rattle.cml_hub.specs.Runs.{is_allowed}
use Rattle.cml_schedule.specs.Plans.{PlainPlan}
use Rattle.cml_schedule.specs.declared.item.Item.{Item}
use Rattle.cml_stream.specs.Counts.{counted}
use Rattle.cml_stream.specs.Streams.{Stream, Takes}
use Rattle.cml_arguments.specs.declared.PartOptions.{PartOptions}
use Rattle.cml_host.specs.Behind.{RepliesBehind, bytes_of}
use Rattle.cml_host.specs.Plans.{AreBoth, AreNotBoth, IsItemTold, Opens}
use Rattle.cml_host.specs.Replies.{Passage, PlainReply, RefusalOf, broken, gives, refusal, runs_out}
use Rattle.cml_host.specs.Scripts.{PlainScript}
use Rattle.cml_host.specs.Stores.{Content, Shelf}
use Rattle.cml_host.specs.declared.explain.Halt.{Halt}
use Rattle.cml_host.specs.declared.explain.Halt.TheVariants.{Memory, Write}

-- the number of an item comes after the last one that is told, if there is such
abbrev pub is_late : Option ℕ → ℕ → Bool
is_late None n = false
is_late (Some last) n = nat_lt last n

-- whether an item of this number, counted from 1, is told: those are from the first that is asked for to the last
abbrev pub is_asked_for : PartOptions → ℕ → Bool
is_asked_for options n = nat_le options.from n && not (is_late options.to n)

-- some text was written
abbrev pub Writes : Stream → Type 0
Writes output = (text : List ℕ) × Takes output text

-- Behind the story of so many items, where these are left: where none is, how the run ended; else that the first of those that are left can't happen.
abbrev pub StoryEnds : List Item → ℕ → Kept → PlainReply → Type 0
StoryEnds [] count h reply = (words : List ℕ) × (reply ≡ gives words)
StoryEnds (item ∷ items) count h reply =
    (is_allowed h.course.world item ≡ false) × ((told : List ℕ) × IsItemTold true (count + 1) told × (reply ≡ refusal told 3))

-- the same, or that memory ran out; or where a write of the story failed, that
abbrev pub BehindStory : List Item → ℕ → Kept → Passage → PlainReply → Type 0
BehindStory left count h output reply =
    ((output.new.failed ≡ output.old.failed) × (StoryEnds left count h reply ⊎ (reply ≡ runs_out [])))
    ⊎ ((output.new.failed ≡ counted output.old.failed) × (reply ≡ broken))

-- These items were told from this hub on, as far as they can happen, to the hub where those that were lead; and then how the run ended, or which
-- one can't happen. Or the story was cut off.
abbrev pub PlanTold : List Item → Kept → Passage → PlainReply → Type 0
PlanTold items start output reply =
    (done : List Item) × (left : List Item) × (items ≡ done ++ left)
    × ((h : Kept) × (h.budget ≡ start.budget) × ItemsLead start.course done h.course × Writes (bytes_of output) × BehindStory left (length done) h output reply)

-- a run of the script that lies under its name begins with this hub, and this is the schedule that lies under its own
abbrev pub IsPlanBegun : PartOptions → (List ℕ → Content) → PlainPlan → Kept → Type 0
IsPlanBegun options held plan start =
    (s : PlainScript) × AreBoth options.script.now options.schedule.now held s plan × Opens s.program plan.budget start

-- The schedule that lies under its name was told of, as one of the script that lies under its own; or one of them is not there or wrong, or memory
-- ran out before.
abbrev pub ExplainsSo : PartOptions → (List ℕ → Content) → Passage → PlainReply → Type 0
ExplainsSo options held output reply =
    ((plan : PlainPlan) × (start : Kept) × IsPlanBegun options held plan start × PlanTold plan.items start output reply)
    ⊎ (RefusalOf (AreNotBoth options.script.now options.schedule.now held) reply × (output.new ≡ output.old))

-- `explain`: this was told, and what was left to say was said
abbrev pub ExplainOutcome : PartOptions → Passage → Passage → Shelf → ℕ → Type 0
ExplainOutcome options output errors store status = RepliesBehind (ExplainsSo options store.before) output errors store status

-- ---- what private functions say

-- how many writes have failed where this is why, and so many had before
abbrev pub broken_by : Halt → ℕ → ℕ
broken_by Memory failed = failed
broken_by Write failed = counted failed

-- some text was written, and whether a write failed is known by why it went no further
abbrev pub IsCutBy : Halt → Passage → Type 0
IsCutBy why output = Writes (bytes_of output) × (output.new.failed ≡ broken_by why output.old.failed)

-- the first of these items can't happen where this course stands, if there is one
abbrev pub IsHeldUp : List Item → PlainCourse → Type 0
IsHeldUp [] c = Unit {0}
IsHeldUp (item ∷ items) c = is_allowed c.world item ≡ false

-- So many of the items happened, from this hub on to that one: all, or those before the first that can't. Some text was written.
pub record HasToldFirst (start : Kept) (items : List Item) (count : ℕ) (h : Kept) (output : Passage) : Type 0 where
  pub counted : count ≤ length items
  pub budget : h.budget ≡ start.budget
  pub held_up : IsHeldUp (drop count items) h.course
  pub leads : ItemsLead start.course (take count items) h.course
  pub wrote : Writes (bytes_of output)
  pub fine : output.new.failed ≡ output.old.failed

-- what is replied where this is why a story was cut off
abbrev pub IsCutReply : Halt → PlainReply → Type 0
IsCutReply Memory reply = reply ≡ runs_out []
IsCutReply Write reply = reply ≡ broken

-- that an item of this number can't happen is replied, or that memory ran out
abbrev pub ItemRefused : ℕ → PlainReply → Type 0
ItemRefused n reply = ((told : List ℕ) × IsItemTold true n told × (reply ≡ refusal told 3)) ⊎ (reply ≡ runs_out [])

-- how the run ended is replied, or that memory ran out
abbrev pub EndReplied : PlainReply → Type 0
EndReplied reply = ((words : List ℕ) × (reply ≡ gives words)) ⊎ (reply ≡ runs_out [])
