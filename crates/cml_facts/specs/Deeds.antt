-- What each item of a run did.
use Rattle.std.specs.Prelude.{◌≡◌, ℕ, ◌==◌, if◌then◌else◌, List, length}
use Rattle.cml_scan.specs.World.{PlainWorld}
use Rattle.cml_scan.specs.Scan.{heads}
use Rattle.cml_schedule.specs.declared.item.Item.{Item}
use Rattle.cml_schedule.specs.declared.item.Item.TheVariants.{Turn, Meet as Commit, Exchange, Clock}
use Rattle.cml_hub.specs.Courses.{PlainCourse}
use Rattle.cml_phrase.specs.declared.place.Place.{Place}
use Rattle.cml_facts.specs.declared.narrative.deed.Happened.{Happened}
use Rattle.cml_facts.specs.declared.narrative.deed.Deed.{Deed}
use Rattle.cml_facts.specs.declared.narrative.deed.Deed.TheVariants as deed
use Rattle.cml_facts.specs.Turns.{began_in, IsTurned}
use Rattle.cml_facts.specs.Commits.{IsRowDeed}

-- how many events could happen: those that can be taken alone, and those that come first in a pair, each once
abbrev pub could_count : PlainWorld → ℕ
could_count w = length (heads w)

-- the same after an item, where none could before it
abbrev pub newly : PlainWorld → PlainWorld → ℕ
newly old new = if could_count old == 0 then could_count new else 0

-- how many could happen by the line of an item: before a commit, after any other item
abbrev pub could_at : Item → PlainWorld → PlainWorld → ℕ
could_at (Turn t) old new = newly old new
could_at (Commit row) old new = could_count old
could_at (Exchange row) old new = could_count old
could_at (Clock tick) old new = newly old new

-- what an item did that led from one course to the next
abbrev pub IsDeed : List (List Place) → PlainCourse → Item → PlainCourse → Deed → Type 0
IsDeed places old (Turn t) new (deed.Turned x) = IsTurned places old t.0 new x
IsDeed places old (Commit row) new d = IsRowDeed (began_in old) old.world row d
IsDeed places old (Exchange row) new d = IsRowDeed (began_in old) old.world row d
IsDeed places old (Clock tick) new d = d ≡ deed.Moved tick
IsDeed places old item new d = ⊥

-- an item that led from one course to the next, where these are the places of the program's statements
pub record HasHappened (places : List (List Place)) (old : PlainCourse) (item : Item) (new : PlainCourse) (x : Happened) : Type 0 where
  pub number : x.number ≡ length new.items
  pub could : x.could ≡ could_at item old.world new.world
  pub did : IsDeed places old item new x.deed
