-- Classes by size.
use Rattle.std.specs.Prelude.{◌≡◌, ℕ, suc, List, [], ◌∷◌, map}
use Rattle.std.specs.declared.cmp.Ordering.{Ordering}
use Rattle.std.specs.declared.cmp.Reverse.{Reverse}
use Rattle.std.specs.Ordering.{nat_cmp, ordering_then}
use Rattle.std.specs.List.Sorted.{IsPermutation, IsSorted}
use Rattle.cml_explore.specs.Classes.{PlainClass}

-- how many runs a class has, and its number among the classes
abbrev pub Rank : Type 0
Rank = Reverse ℕ × ℕ

-- those of these classes, of which the first has this number
abbrev pub ranks_from : ℕ → List PlainClass → List Rank
ranks_from k [] = []
ranks_from k (c ∷ cs) = (record { 0 = c.summary.runs }, k) ∷ ranks_from (suc k) cs

-- the class with more runs comes first; of two that have as many the one with the lesser number, whose first seed is the lesser one
abbrev pub by_size : Rank → Rank → Ordering
by_size x y = ordering_then (nat_cmp y.0.0 x.0.0) (nat_cmp x.1 y.1)

-- the classes by size
abbrev pub AreRanked : List PlainClass → List Rank → Type 0
AreRanked classes ranks = IsPermutation (ranks_from 0 classes) ranks × IsSorted by_size ranks

-- these are the numbers of the classes by size
abbrev pub AreInRank : List PlainClass → List ℕ → Type 0
AreInRank classes numbers = (ranks : List Rank) × AreRanked classes ranks × (numbers ≡ map (λ rank. rank.1) ranks)
