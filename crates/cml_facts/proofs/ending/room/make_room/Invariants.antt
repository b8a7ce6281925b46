use Rattle.std.proofs.Common.{◌≡◌, ◌+◌, ◌-◌, ℕ, None, length}
use Rattle.std.specs.Prelude.{slice_index_or}
use Rattle.cml_facts.proofs.ending.room.make_room.Given as goal

-- each number has what it had
abbrev pub invariant-growing : goal.invariant-growing
invariant-growing g l = (n : ℕ) → slice_index_or l.places.items n None ≡ slice_index_or l.fn.places.items n None

abbrev pub decreases-growing : goal.decreases-growing
decreases-growing g l = l.number + 1 - length l.places.items
