-- The leaves of a forced group by number.
use Rattle.std.specs.Prelude.{ℕ, Option, List, slice_get, map}
use Rattle.std.specs.Option.{option_map}
use Rattle.cml_value.specs.Value.{PlainBase, PlainFunction}
use Rattle.cml_value.specs.Group.{PlainGroup, PlainLeaf, leaves}
use Rattle.cml_value.specs.declared.number.NackId.{NackId}

-- the leaf of this number, counted from the left and from 0: none at or past the number of leaves
abbrev pub pick : PlainGroup → ℕ → Option PlainLeaf
pick g n = slice_get (leaves g) n

-- its base event
abbrev pub leaf_base : PlainGroup → ℕ → Option PlainBase
leaf_base g n = option_map (λ l. l.base) (pick g n)

-- the functions that its result goes through, in the order in which they run: those of nested wraps innermost first
abbrev pub leaf_wraps : PlainGroup → ℕ → Option (List PlainFunction)
leaf_wraps g n = option_map (λ l. l.wraps) (pick g n)

-- nacks by their numbers
abbrev pub numbers : List NackId → List ℕ
numbers ks = map (λ k. k.0) ks
