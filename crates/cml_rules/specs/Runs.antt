-- What the laws say of runs.
use Rattle.std.specs.Prelude.{◌≡◌, ◌↔◌, ℕ, true, false, List, [], ◌∷◌, ◌++◌, Some, None}
use Rattle.cml_value.specs.Value.{PlainBase, PlainValue}
use Rattle.cml_scan.specs.World.{PlainWorld}
use Rattle.cml_scan.specs.declared.meet.Meet.{Meet}
use Rattle.cml_schedule.specs.declared.item.Item.{Item}
use Rattle.cml_schedule.specs.declared.item.Item.TheVariants.{Meet as Commit, Exchange, Clock}
use Rattle.cml_step.specs.Terms.{Program}
use Rattle.cml_book.specs.declared.command.Committed.{Committed}
use Rattle.cml_hub.specs.Runs.{Run, stands, all_resumed, terminal, is_allowed}
use Rattle.cml_hub.specs.Courses.{TakesRow}
use Rattle.cml_rules.specs.Rules.{Communicate, sends, swaps, Synchronizes, alone, together}
use Rattle.cml_rules.specs.Places.{row_of}
use Rattle.cml_rules.specs.Laws.{Step}

-- the two swap
abbrev pub AreSwaps : {t u : ℕ} {a b : PlainBase} {x y : PlainValue} → Communicate t u a b x y → Type 0
AreSwaps (sends c v h) = ⊥
AreSwaps (swaps s x y h) = Unit {0}

-- where the item is an exchange, the step is one of two threads that swap
abbrev pub FitsItem : {w next : PlainWorld} {gives : Committed} → Item → Synchronizes w next gives → Type 0
FitsItem (Exchange row) (alone t g b s v w' p d h) = ⊥
FitsItem (Exchange row) (together t u g h a b r s x y p q d e m) = AreSwaps m
FitsItem _ d = Unit {0}

-- The item takes a step of the rules: the run stands before it and behind it, a derivation of its row leads from the one world to the other, and
-- the parties go on with what it gives.
pub record TakesStep (p : Program) (before : List Item) (item : Item) (row : Meet) : Type 0 where
  pub now : Run
  pub next : Run
  pub gives : Committed
  pub stood : stands p before ≡ Some now
  pub stands_next : stands p (before ++ item ∷ []) ≡ Some next
  pub step : Synchronizes now.world next.world gives
  pub of_row : row_of step ≡ row
  pub fits : FitsItem item step
  pub goes_on : next.terms ≡ all_resumed p now.terms gives

-- Each commit and each exchange of a schedule that can be followed takes a step of the rules.
abbrev pub RunsTakeSteps : Type 0
RunsTakeSteps = (p : Program) (before after : List Item) (item : Item) (row : Meet) (end : Run) → TakesRow item row → stands p (before ++ item ∷ after) ≡ Some end → TakesStep p before item row

-- A run can take each step that the rules allow where it stands, and then stands in the world after the step.
pub record CanTake (p : Program) (items : List Item) (now : Run) (s : Step now.world) : Type 0 where
  pub next : Run
  pub stands_next : stands p (items ++ Commit (row_of s.derivation) ∷ []) ≡ Some next
  pub world : next.world ≡ s.next
  pub goes_on : next.terms ≡ all_resumed p now.terms s.gives

abbrev pub StepsCanBeTaken : Type 0
StepsCanBeTaken = (p : Program) (items : List Item) (now : Run) → stands p items ≡ Some now → (s : Step now.world) → CanTake p items now s

-- The clock moves in a schedule that can be followed only where the rules allow no step.
abbrev pub TimeWaits : Type 0
TimeWaits = (p : Program) (before after : List Item) (tick : ℕ) (now end : Run) → stands p before ≡ Some now → stands p (before ++ Clock tick ∷ after) ≡ Some end → Step now.world → ⊥

-- Where nothing is left to do, the rules allow no step.
abbrev pub TheEndIsStill : Type 0
TheEndIsStill = (w : PlainWorld) → Rattle.std.specs.Prelude.IsTrue (terminal w) → Step w → ⊥

-- Nothing is left to do exactly where no item is allowed.
abbrev pub EndIsNoItem : Type 0
EndIsNoItem = (w : PlainWorld) → (terminal w ≡ true) ↔ ((item : Item) → is_allowed w item ≡ false)

-- Where nothing is left to do, no schedule goes on: no thread that waits there ever goes on.
abbrev pub EndIsForEver : Type 0
EndIsForEver = (p : Program) (items more : List Item) (item : Item) (now : Run) → stands p items ≡ Some now → terminal now.world ≡ true → stands p (items ++ item ∷ more) ≡ None
