-- What may be left out of a schedule.
use Rattle.std.specs.Prelude.{ℕ, ◌==◌, Bool, false, not, ◌||◌, List, ◌++◌, take, drop, filter, IsPermutation}
use Rattle.cml_scan.specs.declared.meet.Meet.{Meet}
use Rattle.cml_scan.specs.declared.meet.Meet.TheVariants.{Single, Pair}
use Rattle.cml_schedule.specs.declared.item.Item.{Item}
use Rattle.cml_schedule.specs.declared.item.Item.TheVariants.{Turn, Meet as Commit, Exchange, Clock}

-- the thread is a party to the row
abbrev pub is_in_row : ℕ → Meet → Bool
is_in_row t (Single u n) = u.0 == t
is_in_row t (Pair h i o j) = (h.0 == t) || (o.0 == t)

-- the thread takes part in the item: it has its turn, or it is a party to the row that is taken
abbrev pub acts_in : ℕ → Item → Bool
acts_in t (Turn u) = u.0 == t
acts_in t (Commit row) = is_in_row t row
acts_in t (Exchange row) = is_in_row t row
acts_in t (Clock tick) = false

-- the items without those in which the thread takes part, from the item of this number on; they are numbered from 0
abbrev pub without_rest : List Item → ℕ → ℕ → List Item
without_rest items t i = take i items ++ filter (λ item. not (acts_in t item)) (drop i items)

-- The items are a selection of the given ones: with those that are left out they are all of them, in some order.
abbrev pub IsSelection : List Item → List Item → Type 0
IsSelection given items = (left_out : List Item) × IsPermutation given (items ++ left_out)
