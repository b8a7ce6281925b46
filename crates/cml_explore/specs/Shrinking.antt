-- A shorter schedule that ends alike.
use Rattle.std.specs.Prelude.{ℕ, ◌≡◌, ◌≤◌, ◌<◌, ◌⊎◌, true, List, length, remove, take, Some, slice_get}
use Rattle.cml_check.specs.Syntax.{PlainItem}
use Rattle.cml_schedule.specs.declared.item.Item.{Item}
use Rattle.cml_facts.specs.declared.fault.detail.Detail.{Detail}
use Rattle.cml_explore.specs.Cuts.{acts_in, without_rest, IsSelection}
use Rattle.cml_explore.specs.ShrinkEnds.{EndsWith, EndsAlike, IsGiven, IsUnlike}
use Rattle.cml_explore.specs.declared.shrink.replay.Asked.{Asked}

-- a schedule, and how many others were tried to find it
pub record PlainShrunk : Type 0 where
  pub items : List Item
  pub used : ℕ

-- The item of this number is needed: without it the others can't be followed from the start, or end otherwise; and so it is without the items of a
-- thread from this one on, where the thread takes part in it.
pub record IsNeeded (p : List (PlainItem ℕ)) (asked : Asked) (details : List Detail) (items : List Item) (i : ℕ) : Type 0 where
  pub alone : IsUnlike p asked details (remove items i)
  pub rest : (t : ℕ) (item : Item) → slice_get items i ≡ Some item → acts_in t item ≡ true → IsUnlike p asked details (without_rest items t i)

-- No single item can be left out, and no single thread's items from some point on.
abbrev pub IsMinimal : List (PlainItem ℕ) → Asked → List Detail → List Item → Type 0
IsMinimal p asked details items = (i : ℕ) → i < length items → IsNeeded p asked details items i

-- The schedule of this program that was found for the given items, or, where it is to stop, for those up to where their run stops: it can be followed
-- from the start and ends as they do; its items are a selection of theirs, so that it is not longer than they are; and no item of it can be left out
-- by itself, nor one thread's items from some point on, unless all tries were used.
pub record IsShrunk (p : List (PlainItem ℕ)) (asked : Asked) (given : List Item) (found : PlainShrunk) : Type 0 where
  pub count : ℕ
  pub given_are : IsGiven p asked given count
  pub details : List Detail
  pub ended : EndsWith p asked (take count given) details
  pub ends_alike : EndsAlike p asked details found.items
  pub selects : IsSelection (take count given) found.items
  pub no_longer : length found.items ≤ count
  pub in_tries : found.used ≤ asked.tries
  pub minimal : (found.used ≡ asked.tries) ⊎ IsMinimal p asked details found.items
