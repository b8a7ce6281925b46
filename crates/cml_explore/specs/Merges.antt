-- The classes of runs that were made in parts, side by side.
use Rattle.std.specs.Prelude.{ℕ, ◌≡◌, ◌+◌, ◌*◌, ◌-◌, ◌<◌, ◌≤◌, ◌^◌, min, Bool, true, false, ◌&&◌, if◌then◌else◌, List, [], ◌∷◌, ◌++◌, Option, Some, length, slice_get, sum_by}
use Rattle.std.specs.List.{All, fold, list_any}
use Rattle.cml_check.specs.Syntax.{PlainItem}
use Rattle.cml_explore.specs.declared.explored.Asked.{Asked}
use Rattle.cml_explore.specs.declared.share.Part.{Part}
use Rattle.cml_explore.specs.declared.share.Round.{Round}
use Rattle.cml_explore.specs.declared.share.Taken.{Taken}
use Rattle.cml_facts.specs.Details.{alike}
use Rattle.cml_explore.specs.Classes.{PlainSummary, PlainClass, with_digest, shorter}
use Rattle.cml_explore.specs.Finishes.{PlainEnded, stops, EachEnds}
use Rattle.cml_explore.specs.Explored.{PlainExplored, IsExplored, SoFar, gathered}

-- ---- what private functions say

-- what is kept of the runs of a class, where those of the second part came later
abbrev pub both_summaries : PlainSummary → PlainSummary → PlainSummary
both_summaries t u = record t { runs = t.runs + u.runs; outputs = fold with_digest t.outputs u.outputs; shortest = shorter t.shortest u.shortest }

-- the same of a class by itself
abbrev pub summary_alone : PlainSummary → PlainSummary
summary_alone t = record t { outputs = fold with_digest [] t.outputs }

-- A class of a later part joins the class of those that ended alike; where there is none, it comes last.
abbrev pub class_joined : List PlainClass → PlainClass → List PlainClass
class_joined [] d = record d { summary = summary_alone d.summary } ∷ []
class_joined (c ∷ cs) d = if alike d.details c.details then record c { summary = both_summaries c.summary d.summary } ∷ cs else c ∷ class_joined cs d

-- the classes of two parts, of which the second came later
abbrev pub classes_merged : List PlainClass → List PlainClass → List PlainClass
classes_merged cs ds = fold class_joined cs ds

-- the same of all that is kept
abbrev pub parts_merged : PlainExplored → PlainExplored → PlainExplored
parts_merged one other = record {
  classes = classes_merged one.classes other.classes;
  runs = one.runs + other.runs;
  well = one.well && other.well;
}

-- how many runs the classes have
abbrev pub runs_of : List PlainClass → ℕ
runs_of cs = sum_by (λ c. c.summary.runs) cs

-- the runs of both can be counted
pub record FitBeside (one other : PlainExplored) : Type 0 where
  pub runs : one.runs + other.runs < 2 ^ 64
  pub classes : runs_of one.classes + runs_of other.classes < 2 ^ 64

-- Runs by one seed after another, of which the last alone is one at which to stop.
pub record StopsLast (p : List (PlainItem ℕ)) (asked : Asked) (made : PlainExplored) : Type 0 where
  pub before : List PlainEnded
  pub last : PlainEnded
  pub each : EachEnds p asked.budget asked.orders asked.servers.now asked.wanted asked.first (before ++ last ∷ [])
  pub none : list_any (stops asked.until.now) before ≡ false
  pub stops_there : stops asked.until.now last ≡ true
  pub few : made.runs ≤ asked.runs
  pub gathered_so : made ≡ gathered asked.first (before ++ last ∷ [])

-- All runs that were asked for, none of which is one at which to stop; or those up to the first of these.
abbrev pub HasPart : List (PlainItem ℕ) → Asked → Bool → PlainExplored → Type 0
HasPart p asked true made = StopsLast p asked made
HasPart p asked false made = SoFar p asked made × (made.runs ≡ asked.runs)

-- how many runs of a round come before the part of this number
abbrev pub runs_before : Round → ℕ → ℕ
runs_before round k = k * round.size

-- What is asked of the part of this number: the seeds that follow those of the parts before it, a part's size of them, or as many as are left.
abbrev pub part_asked : Asked → Round → ℕ → Asked
part_asked asked round k = record asked { first = round.first + runs_before round k; runs = min round.size (round.left - runs_before round k) }

-- so many parts are in the round, each of which has a run at least
abbrev pub AreInside : Round → ℕ → Type 0
AreInside round count = (k : ℕ) → k < count → runs_before round k < round.left

-- a part that a thread has taken: its number is one of so many, and it is what is asked of the part of that number
abbrev pub IsPartTaken : List (PlainItem ℕ) → Asked → Round → ℕ → Taken → Type 0
IsPartTaken p asked round count taken = (taken.number < count) × HasPart p (part_asked asked round taken.number) taken.part.stopped taken.part.made

-- the parts that a thread has taken
abbrev pub ArePartsTaken : List (PlainItem ℕ) → Asked → Round → ℕ → List Taken → Type 0
ArePartsTaken p asked round count taken = All (IsPartTaken p asked round count) taken

-- what lies at a place is the part of its number
abbrev pub ArePartsPlaced : List (PlainItem ℕ) → Asked → Round → List (Option Part) → Type 0
ArePartsPlaced p asked round places =
    (k : ℕ) (part : Part) → slice_get places k ≡ Some (Some part) → HasPart p (part_asked asked round k) part.stopped part.made

-- the round goes on behind what was made
pub record IsRound (asked : Asked) (made : PlainExplored) (round : Round) : Type 0 where
  pub first : round.first ≡ asked.first + made.runs
  pub left : made.runs + round.left ≡ asked.runs
  pub size : 0 < round.size

-- this is what the part comes to with what was made before
pub record JoinsPart (part : Part) (old new : PlainExplored) (stopped : Bool) : Type 0 where
  pub merged : new ≡ parts_merged old part.made
  pub stopped_so : stopped ≡ part.stopped

-- So many of the parts of a round, of so many in all, have come behind what was made before it, and none has a run at which to stop.
pub record IsAmidRound (p : List (PlainItem ℕ)) (asked : Asked) (so_far : PlainExplored) (round : Round) (count k : ℕ) (made : PlainExplored) : Type 0 where
  pub is : IsRound asked so_far round
  pub inside : AreInside round count
  pub here : SoFar p asked made
  pub many : made.runs ≡ so_far.runs + min (runs_before round k) round.left

-- They have come up to one whose last run is one at which to stop; or so many have.
abbrev pub HasJoined : List (PlainItem ℕ) → Asked → PlainExplored → Round → ℕ → ℕ → Bool → PlainExplored → Type 0
HasJoined p asked so_far round count k true made = IsExplored p asked made × (so_far.runs < made.runs)
HasJoined p asked so_far round count k false made = IsAmidRound p asked so_far round count k made
