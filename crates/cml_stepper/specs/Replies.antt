-- What is done at an answer.
use Rattle.std.specs.Prelude.{◌≡◌, ℕ, zero, suc, ◌+◌, ◌-◌, Bool, true, false, List, [], ◌∷◌, length, take, drop, Option, Some, None}
use Rattle.cml_scan.specs.World.{PlainWorld}
use Rattle.cml_scan.specs.Scan.{scan}
use Rattle.cml_scan.specs.declared.meet.Meet.{Meet}
use Rattle.cml_step.specs.Calls.{text_of}
use Rattle.cml_schedule.specs.declared.item.Item.{Item}
use Rattle.cml_schedule.specs.declared.item.Item.TheVariants.{Turn}
use Rattle.cml_hub.specs.Courses.{PlainCourse, run_of, Adds}
use Rattle.cml_hub.specs.Kept.{Kept}
use Rattle.cml_hub.specs.Runs.{stands}
use Rattle.cml_phrase.specs.declared.place.Place.{Place}
use Rattle.cml_facts.specs.Ends.{IsEnding}
use Rattle.cml_facts.specs.declared.narrative.deed.Happened.{Happened}
use Rattle.cml_facts.specs.Deeds.{HasHappened}
use Rattle.cml_facts.specs.Turns.{began_in}
use Rattle.cml_facts.specs.Whys.{item_why}
use Rattle.cml_stepper.specs.declared.line.Typed.{Typed}
use Rattle.cml_stepper.specs.declared.line.Typed.TheVariants as typed
use Rattle.cml_stepper.specs.declared.question.Question.{Question}
use Rattle.cml_stepper.specs.declared.reply.Reply.{Reply}
use Rattle.cml_stepper.specs.declared.reply.Reply.TheVariants as reply
use Rattle.cml_stepper.specs.declared.reply.Stay.{Stay}
use Rattle.cml_stepper.specs.declared.reply.Stay.TheVariants as stay
use Rattle.cml_stepper.specs.Typings.{IsTyped}
use Rattle.cml_stepper.specs.Picks.{item_typed}
use Rattle.cml_stepper.specs.Offers.{AreRows}
use Rattle.cml_stepper.specs.Questions.{IsQuestion}

-- it is the end
abbrev pub is_end : Reply → Bool
is_end reply.Quit = true
is_end r = false

-- An item happened: what it did, what it added to the output, and what can happen next.
pub record HappensSo (places : List (List Place)) (old : Kept) (item : Item) (new : Kept) (happened : Happened) (printed : List ℕ) (question : Question) : Type 0 where
  pub adds : Adds old.course item new.course
  pub budget : new.budget ≡ old.budget
  pub did : HasHappened places old.course item new.course happened
  pub prints : printed ≡ drop (length old.course.output) new.course.output
  pub asks : IsQuestion places new question

abbrev pub IsGone : List (List Place) → Kept → Item → Kept → Reply → Type 0
IsGone places old item new (reply.Gone happened printed question) = HappensSo places old item new happened printed.items question
IsGone places old item new r = ⊥

-- nothing has changed; of what is told this is so, and the same item comes next
abbrev pub StaysAs : (Stay → Type 0) → Kept → Kept → Reply → Type 0
StaysAs IsSo old new (reply.Stays stay number) = (new ≡ old) × IsSo stay × (number ≡ length old.course.items + 1)
StaysAs IsSo old new r = ⊥

-- the hub stands where the schedule leads without its last item
pub record LeadsBack (old new : Kept) : Type 0 where
  pub program : new.course.program ≡ old.course.program
  pub budget : new.budget ≡ old.budget
  pub items : new.course.items ≡ take (length old.course.items - 1) old.course.items
  pub leads : stands (text_of new.course.program) new.course.items ≡ Some (run_of new.course)

-- the last item was undone, and this can happen before it
abbrev pub Undoes : List (List Place) → Kept → Kept → Reply → Type 0
Undoes places old new (reply.Undone number question) = LeadsBack old new × (number ≡ length old.course.items) × IsQuestion places new question
Undoes places old new r = ⊥

-- the same where there are these items; without any there is nothing to undo
abbrev pub UndoesLast : List Item → List (List Place) → Kept → Kept → Reply → Type 0
UndoesLast [] places old new r = StaysAs (λ s. s ≡ stay.NoItem) old new r
UndoesLast (item ∷ items) places old new r = Undoes places old new r

-- why an empty line means nothing where no thread runs, and these rows can be taken
abbrev pub no_next : List Meet → Stay
no_next [] = stay.Nothing
no_next (row ∷ rows) = stay.ManyRows

-- why an answer names no item
abbrev pub unfit : PlainWorld → Typed → Stay
unfit w (typed.Row n) = stay.NoRow n
unfit w (typed.Turn t) = stay.NoTurn t (item_why w (Turn t))
unfit w typed.Next = no_next (scan w)
unfit w what = stay.Unknown

-- these rows, of which the first has this number; or that there is no such row
abbrev pub IsListed : PlainCourse → ℕ → List Meet → Stay → Type 0
IsListed c n [] s = s ≡ stay.NoRow n
IsListed c n (row ∷ rows) (stay.Listed listed) = AreRows c.world (began_in c) n (row ∷ rows) listed
IsListed c n (row ∷ rows) s = ⊥

-- the rows of the scan from this number on
abbrev pub Lists : PlainCourse → ℕ → Stay → Type 0
Lists c zero s = s ≡ stay.NoRow 0
Lists c (suc n) s = IsListed c (suc n) (drop n (scan c.world)) s

-- how the run of this hub has ended
abbrev pub TellsEnd : List (List Place) → Kept → Stay → Type 0
TellsEnd places h (stay.Waits ending) = IsEnding places h ending
TellsEnd places h s = ⊥

-- the item that an answer names happened; where it names none, nothing did, and the answer to it says why
abbrev pub TakesNamed : List (List Place) → Typed → Option Item → Kept → Kept → Reply → Type 0
TakesNamed places what (Some item) old new r = IsGone places old item new r
TakesNamed places what None old new r = StaysAs (λ s. s ≡ unfit old.course.world what) old new r

-- what is done at an answer
abbrev pub DoneAt : List (List Place) → Typed → Kept → Kept → Reply → Type 0
DoneAt places typed.Quit old new r = (r ≡ reply.Quit) × (new ≡ old)
DoneAt places typed.Undo old new r = UndoesLast old.course.items places old new r
DoneAt places typed.Waits old new r = StaysAs (TellsEnd places old) old new r
DoneAt places (typed.List n) old new r = StaysAs (Lists old.course n) old new r
DoneAt places what old new r = TakesNamed places what (item_typed old.course.world old.course.items what) old new r

-- the answer to a line
abbrev pub AnswersLine : List (List Place) → Kept → List ℕ → Reply → Kept → Type 0
AnswersLine places old line r new = (what : Typed) × IsTyped line what × DoneAt places what old new r
