-- Which items take a row, and what is told of a schedule that was found.
use Rattle.std.specs.Prelude.{◌≡◌, ◌==◌, nat_lt, ℕ, Bool, true, false, List, length, count_by}
use Rattle.cml_schedule.specs.declared.item.Item.{Item}
use Rattle.cml_explore.specs.Shrinking.{PlainShrunk}
use Rattle.cml_explore.specs.declared.shrink.counts.Counts.{Counts}
use Rattle.cml_explore.specs.declared.shrink.counts.ShrunkTold.{ShrunkTold}
use Rattle.cml_schedule.specs.declared.item.Item.TheVariants.{Turn, Meet as Commit, Exchange, Clock}

-- a row is taken, as any row or as an exchange
abbrev pub is_commit : Item → Bool
is_commit (Turn t) = false
is_commit (Commit row) = true
is_commit (Exchange row) = true
is_commit (Clock tick) = false

-- this is how long a schedule of these items is
abbrev pub AreCountsOf : List Item → Counts → Type 0
AreCountsOf items counts = (counts.items ≡ length items) × (counts.commits ≡ count_by is_commit items)

-- What is told of the schedule that was found for the given one: how long both are, whether it has fewer items, how many others were tried, and
-- whether these are all tries that there might be.
pub record IsShrunkTold (given : List Item) (tries : ℕ) (found : PlainShrunk) (told : ShrunkTold) : Type 0 where
  pub old_are : AreCountsOf given told.old
  pub new_are : AreCountsOf found.items told.new
  pub shorter_is : told.shorter ≡ nat_lt (length found.items) (length given)
  pub tried_is : told.tried ≡ found.used
  pub all_is : told.all ≡ (found.used == tries)
