-- A run that is made again, by a second hub.
use Rattle.std.specs.Prelude.{◌≡◌, ℕ, take}
use Rattle.cml_schedule.specs.declared.item.Item.{Item}
use Rattle.cml_hub.specs.Courses.{Adds}
use Rattle.cml_hub.specs.Kept.{Kept, NoneOut}

-- The second hub runs the program of the first. The first n items of the first one's schedule have come in it, and no slice is out.
pub record RunsAgain (first second : Kept) (n : ℕ) : Type 0 where
  pub program : second.course.program ≡ first.course.program
  pub items : second.course.items ≡ take n first.course.items
  pub none_out : NoneOut second

-- the item was added, and no slice is out
pub record AddsAlone (old : Kept) (item : Item) (new : Kept) : Type 0 where
  pub adds : Adds old.course item new.course
  pub none_out : NoneOut new
