-- The picture of a schedule.
use Rattle.std.specs.Prelude.{◌≡◌, ℕ, ◌+◌, ◌-◌, ◌≤◌, false, List, [], ◌∷◌, ◌++◌, length, drop, take}
use Rattle.cml_schedule.specs.declared.item.Item.{Item}
use Rattle.cml_hub.specs.Courses.{PlainCourse, Adds}
use Rattle.cml_hub.specs.Runs.{is_allowed}
use Rattle.cml_phrase.specs.declared.place.Place.{Place}
use Rattle.cml_facts.specs.declared.narrative.deed.Happened.{Happened}
use Rattle.cml_facts.specs.Deeds.{HasHappened}
use Rattle.cml_picture.specs.declared.fault.DrawFault.{DrawFault}
use Rattle.cml_picture.specs.declared.fault.DrawFault.TheVariants.{BadItem, TooMany, Memory}
use Rattle.cml_picture.specs.Stacks.{PlainStack, thread_count, no_rows, with_happened, row_limit, height_limit, IsTooMuch}
use Rattle.cml_picture.specs.Sheets.{PlainSheet}
use Rattle.cml_picture.specs.Lives.{with_lines}
use Rattle.cml_picture.specs.WellFormed.{IsWellFormed}

-- What these items show that lead from one course to another, where these are the places of the program's statements: rows that grow by what
-- each of them did.
abbrev pub Shows : List (List Place) → PlainCourse → PlainStack → List Item → PlainCourse → PlainStack → Type 0
Shows places c s [] c' s' = (c' ≡ c) × (s' ≡ s)
Shows places c s (item ∷ items) c' s' =
    (next : PlainCourse) × (x : Happened) × Adds c item next × HasHappened places c item next x × Shows places next (with_happened next.world s x) items c' s'

-- these items lead from one course to another
abbrev pub ItemsLead : PlainCourse → List Item → PlainCourse → Type 0
ItemsLead c [] c' = c' ≡ c
ItemsLead c (item ∷ items) c' = (next : PlainCourse) × Adds c item next × ItemsLead next items c'

-- The items of numbers below `from`; and those from `from` to `to`. Numbers are counted from 1, and no item above `to` is among either.
abbrev pub items_before : ℕ → ℕ → List Item → List Item
items_before from to items = take (from - 1) (take to items)

abbrev pub items_within : ℕ → ℕ → List Item → List Item
items_within from to items = drop (from - 1) (take to items)

-- The items from one number on, up to another, and their rows, which are not too much. The schedule begins at this course.
pub record IsRangeShown (places : List (List Place)) (start : PlainCourse) (items : List Item) (from to before : ℕ) (end : PlainCourse) (stack : PlainStack) : Type 0 where
  pub first : PlainCourse
  pub leads : ItemsLead start (items_before from to items) first
  pub before_is : before ≡ thread_count first
  pub shows : Shows places first no_rows (items_within from to items) end stack
  pub few : stack.rows ≤ row_limit
  pub low : stack.bottom ≤ height_limit

-- What a picture shows of the items of a schedule from one number on, up to another: their rows, and where the lines of the threads begin and
-- end that take part in them.
pub record IsSheet (places : List (List Place)) (start : PlainCourse) (items : List Item) (from to : ℕ) (end : PlainCourse) (sheet : PlainSheet) : Type 0 where
  pub before : ℕ
  pub shown : IsRangeShown places start items from to before end sheet.stack
  pub lines : sheet ≡ with_lines end (items_within from to items) (length items) before sheet.stack

-- A picture of them: there is something to show, and the text is well-formed.
pub record Draws (start : PlainCourse) (items : List Item) (from to : ℕ) (end : PlainCourse) (picture : List ℕ) : Type 0 where
  pub places : List (List Place)
  pub sheet : PlainSheet
  pub is : IsSheet places start items from to end sheet
  pub well_formed : ∥ IsWellFormed picture ∥₁

-- One of these items can't happen where the ones before it lead, which is where the run stands then. Its number is counted from 1, with the
-- items that led to where these begin.
pub record HasUnfit (start : PlainCourse) (items : List Item) (number : ℕ) (end : PlainCourse) : Type 0 where
  pub done : List Item
  pub item : Item
  pub rest : List Item
  pub split : items ≡ done ++ item ∷ rest
  pub counted : number ≡ length start.items + length done + 1
  pub leads : ItemsLead start done end
  pub refused : is_allowed end.world item ≡ false

-- some of these items, from the first on, show too much
pub record ShowsTooMuch (places : List (List Place)) (c : PlainCourse) (s : PlainStack) (items : List Item) (end : PlainCourse) : Type 0 where
  pub done : List Item
  pub rest : List Item
  pub stack : PlainStack
  pub split : items ≡ done ++ rest
  pub shows : Shows places c s done end stack
  pub more : IsTooMuch stack

-- the items that are to be shown show too much
pub record IsTooLong (start : PlainCourse) (items : List Item) (from to : ℕ) (end : PlainCourse) : Type 0 where
  pub places : List (List Place)
  pub first : PlainCourse
  pub leads : ItemsLead start (items_before from to items) first
  pub shows : ShowsTooMuch places first no_rows (items_within from to items) end

-- why a schedule is not drawn
abbrev pub IsNotDrawn : PlainCourse → List Item → ℕ → ℕ → PlainCourse → DrawFault → Type 0
IsNotDrawn start items from to end (BadItem number) = HasUnfit start (take to items) number end
IsNotDrawn start items from to end TooMany = IsTooLong start items from to end
IsNotDrawn start items from to end Memory = Unit {0}
