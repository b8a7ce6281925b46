-- How the search for a shorter schedule goes on.
use Rattle.std.specs.Prelude.{ℕ, ◌≡◌, ◌≤◌, ◌<◌, ◌⊎◌, Bool, true, false, List}
use Rattle.cml_schedule.specs.declared.item.Item.{Item}
use Rattle.cml_explore.specs.declared.shrink.replay.Goal.{Goal}
use Rattle.cml_explore.specs.Cuts.{IsSelection}
use Rattle.cml_explore.specs.ShrinkEnds.{EndsAlike, IsUnlike}
use Rattle.cml_explore.specs.Shrinking.{IsNeeded, IsMinimal}

-- the shortest schedule so far, and how many tries are left
pub record PlainSearch : Type 0 where
  pub items : List Item
  pub left : ℕ

-- of the program, the budget and the details of a goal
abbrev pub AlikeTo : Goal → List Item → Type 0
AlikeTo g items = EndsAlike g.program.now g.asked g.details.now items

abbrev pub UnlikeTo : Goal → List Item → Type 0
UnlikeTo g items = IsUnlike g.program.now g.asked g.details.now items

abbrev pub NeededBy : Goal → List Item → ℕ → Type 0
NeededBy g items i = IsNeeded g.program.now g.asked g.details.now items i

abbrev pub MinimalTo : Goal → List Item → Type 0
MinimalTo g items = IsMinimal g.program.now g.asked g.details.now items

-- One step: other items took the place of those that there were. They end alike and are a selection of them, and a try was used. Or none did: then
-- this holds, unless no try is left.
abbrev pub Steps : Goal → Type 0 → PlainSearch → Bool → PlainSearch → Type 0
Steps g Else old true new = AlikeTo g new.items × IsSelection old.items new.items × (new.left < old.left)
Steps g Else old false new = (new.items ≡ old.items) × (new.left ≤ old.left) × ((new.left ≡ 0) ⊎ Else)

-- the search begins with these items, which end alike, and so many tries
pub record SearchBegins (g : Goal) (given : List Item) (tries : ℕ) (s : PlainSearch) : Type 0 where
  pub ends_alike : AlikeTo g s.items
  pub items_are : s.items ≡ given
  pub left_is : s.left ≡ tries

-- some steps: the items still end alike, and are a selection of those that there were
pub record Goes (g : Goal) (old new : PlainSearch) : Type 0 where
  pub ends_alike : AlikeTo g new.items
  pub selects : IsSelection old.items new.items
  pub tries : new.left ≤ old.left

-- steps until no item can be left out by itself, nor one thread's items from some point on, unless no try is left
pub record SearchSettles (g : Goal) (old new : PlainSearch) : Type 0 where
  pub goes : Goes g old new
  pub minimal : (new.left ≡ 0) ⊎ MinimalTo g new.items

-- what was found from the given items on, with so many tries
pub record SearchFinds (g : Goal) (given : List Item) (tries : ℕ) (found : PlainSearch) : Type 0 where
  pub ends_alike : AlikeTo g found.items
  pub selects : IsSelection given found.items
  pub in_tries : found.left ≤ tries
  pub minimal : (found.left ≡ 0) ⊎ MinimalTo g found.items
