-- What the laws say of what a thread does by itself: what is asked, what is forced, and turns.
use Rattle.std.specs.Prelude.{◌≡◌, ◌≢◌, ◌⊎◌, ◌↔◌, ℕ, List, [], ◌∷◌, ◌++◌, Some, None, Ok, Err, slice_get}
use Rattle.cml_value.specs.Value.{PlainFunction, PlainEvent, guard, scope}
use Rattle.cml_value.specs.Group.{PlainGroup}
use Rattle.cml_value.specs.declared.number.Tid.{Tid}
use Rattle.cml_group.specs.Force.{calls, needs_nack, unforced, replaced, given_nack}
use Rattle.cml_scan.specs.World.{running, ended, PlainWorld}
use Rattle.cml_schedule.specs.declared.item.Item.{Item}
use Rattle.cml_schedule.specs.declared.item.Item.TheVariants.{Turn}
use Rattle.cml_step.specs.Asks.{PlainAsk}
use Rattle.cml_step.specs.Forced.{group_of}
use Rattle.cml_step.specs.Slices.{sliced}
use Rattle.cml_step.specs.Terms.{Program, Term}
use Rattle.cml_book.specs.declared.refusal.Refusal.{Refusal}
use Rattle.cml_book.specs.declared.refusal.Refusal.TheVariants as refusal
use Rattle.cml_book.specs.Entering.{entered}
use Rattle.cml_book.specs.Outcomes.{Outcome, with_thread}
use Rattle.cml_hub.specs.Performed.{PlainDone, asked}
use Rattle.cml_hub.specs.Runs.{Run, stands}
use Rattle.cml_rules.specs.Acts.{ForcesTo, Enacts, RaisesPut}
use Rattle.cml_rules.specs.Laws.{Step}
use Rattle.cml_rules.specs.Places.{row_of}

-- a limit of this project, which Concurrent ML does not have
abbrev pub IsLimit : Refusal → Type 0
IsLimit refusal.Deep = Unit {0}
IsLimit refusal.Leaves = Unit {0}
IsLimit refusal.Far = Unit {0}
IsLimit refusal.Full = Unit {0}
IsLimit _ = ⊥

-- what is asked is refused for such a limit
abbrev pub IsAtLimit : Outcome PlainDone → Type 0
IsAtLimit (Ok next) = ⊥
IsAtLimit (Err why) = IsLimit why

-- What a running thread asks and is not refused is what a rule says; what a rule says is done, where no limit of this project forbids it; and
-- what is refused for `put` raises Put.
pub record AsksAreActs (w : PlainWorld) (t : ℕ) (a : PlainAsk) : Type 0 where
  pub derived : (next : PlainWorld) (gone : PlainDone) → Path (Outcome PlainDone) (asked w t a) (Ok (next, gone)) → Enacts w t a next gone
  pub done : (next : PlainWorld) (gone : PlainDone) → Enacts w t a next gone → Path (Outcome PlainDone) (asked w t a) (Ok (next, gone)) ⊎ IsAtLimit (asked w t a)
  pub raised : RaisesPut w a → Path (Outcome PlainDone) (asked w t a) (Err refusal.Put)
  pub only_raised : Path (Outcome PlainDone) (asked w t a) (Err refusal.Put) → RaisesPut w a

-- What is left to be called in an event is called, one function after another: where that is a guard's, the event becomes what it becomes with
-- an event in the guard's place that the function returned; where it is a withNack's, with the call of its function in the branch of a nack;
-- and where nothing is left, it becomes the group as it enters.
pub record ForcesInTurn (Returned : PlainFunction → PlainEvent → Type 0) (now : ℕ) (e : PlainEvent) (g : PlainGroup) : Type 0 where
  pub called : (f : PlainFunction) → unforced e ≡ Some (calls f)
      → ForcesTo Returned now e g ↔ ((new : PlainEvent) × Returned f new × ForcesTo Returned now (replaced new e) g)
  pub given : (f : PlainFunction) → unforced e ≡ Some (needs_nack f)
      → ForcesTo Returned now e g ↔ ((k : ℕ) × ForcesTo Returned now (replaced (scope k (guard (given_nack k f))) e) g)
  pub rests : unforced e ≡ None → ForcesTo Returned now e g ↔ (g ≡ entered now (group_of e))

-- what the thread asks is refused, and it ends
abbrev pub EndsRefused : PlainWorld → ℕ → PlainAsk → PlainWorld → Type 0
EndsRefused w t a next = (why : Refusal) × Path (Outcome PlainDone) (asked w t a) (Err why) × (next ≡ with_thread w t ended)

-- A turn of the thread does what a rule says of what its slice asks, or that is refused, and the thread ends.
pub record TurnActs (p : Program) (before : List Item) (thread : Tid) : Type 0 where
  pub now : Run
  pub next : Run
  pub stood : stands p before ≡ Some now
  pub stands_next : stands p (before ++ Turn thread ∷ []) ≡ Some next
  pub runs : slice_get now.world.threads thread.0 ≡ Some running
  pub term : Term
  pub at : slice_get now.terms thread.0 ≡ Some term
  pub gone : PlainDone
  pub acts : Enacts now.world thread.0 (sliced p thread.0 term).ask next.world gone ⊎ EndsRefused now.world thread.0 (sliced p thread.0 term).ask next.world

-- Each turn of a schedule that can be followed does so.
abbrev pub TurnsAct : Type 0
TurnsAct = (p : Program) (before after : List Item) (thread : Tid) (end : Run) → stands p (before ++ Turn thread ∷ after) ≡ Some end → TurnActs p before thread

-- The step is allowed in this world too, by the same row and with what it gave, and has not led here.
pub record StaysPossible {w : PlainWorld} (s : Step w) (v : PlainWorld) : Type 0 where
  pub again : Step v
  pub row : row_of again.derivation ≡ row_of s.derivation
  pub gives : again.gives ≡ s.gives
  pub not_taken : v ≢ s.next

-- No turn synchronizes: each step that the rules allow before a turn they allow after it, and it is not what the turn did.
abbrev pub NoTurnSynchronizes : Type 0
NoTurnSynchronizes = (p : Program) (before : List Item) (thread : Tid) (now next : Run) → stands p before ≡ Some now → stands p (before ++ Turn thread ∷ []) ≡ Some next
    → (s : Step now.world) → StaysPossible s next.world
