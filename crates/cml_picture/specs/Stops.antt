-- Why the items of a schedule are not followed or shown to the end.
use Rattle.std.specs.Prelude.{◌≡◌, ℕ, ◌+◌, false, List, [], ◌∷◌, length}
use Rattle.cml_schedule.specs.declared.item.Item.{Item}
use Rattle.cml_hub.specs.Courses.{PlainCourse}
use Rattle.cml_hub.specs.Runs.{is_allowed}
use Rattle.cml_phrase.specs.declared.place.Place.{Place}
use Rattle.cml_picture.specs.declared.fault.DrawFault.{DrawFault}
use Rattle.cml_picture.specs.declared.fault.DrawFault.TheVariants.{BadItem, TooMany, Memory}
use Rattle.cml_picture.specs.Stacks.{PlainStack, IsTooMuch}
use Rattle.cml_picture.specs.Draws.{Shows, HasUnfit, ShowsTooMuch}

-- the item can't happen where the run stands, and has this number
pub record CantCome (c : PlainCourse) (item : Item) (number : ℕ) (end : PlainCourse) : Type 0 where
  pub stays : end ≡ c
  pub refused : is_allowed c.world item ≡ false
  pub counted : number ≡ length c.items + 1

-- of one item that is to be followed
abbrev pub Halts : PlainCourse → Item → PlainCourse → DrawFault → Type 0
Halts c item end (BadItem number) = CantCome c item number end
Halts c item end TooMany = ⊥
Halts c item end Memory = Unit {0}

-- of these
abbrev pub HaltsOf : PlainCourse → List Item → PlainCourse → DrawFault → Type 0
HaltsOf c items end (BadItem number) = HasUnfit c items number end
HaltsOf c items end TooMany = ⊥
HaltsOf c items end Memory = Unit {0}

-- of one item that is to be shown
abbrev pub Stops : List (List Place) → PlainCourse → PlainStack → Item → PlainCourse → DrawFault → Type 0
Stops places c s item end (BadItem number) = CantCome c item number end
Stops places c s item end TooMany = (s' : PlainStack) × Shows places c s (item ∷ []) end s' × IsTooMuch s'
Stops places c s item end Memory = Unit {0}

-- of these
abbrev pub StopsOf : List (List Place) → PlainCourse → PlainStack → List Item → PlainCourse → DrawFault → Type 0
StopsOf places c s items end (BadItem number) = HasUnfit c items number end
StopsOf places c s items end TooMany = ShowsTooMuch places c s items end
StopsOf places c s items end Memory = Unit {0}
