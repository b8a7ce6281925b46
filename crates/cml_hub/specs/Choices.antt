-- What the choosers pick.
use Rattle.std.specs.Prelude.{ℕ, List, [], ◌∷◌}
use Rattle.rand_core.specs.Pcg32Seed.{pcg32_seed}
use Rattle.rand_pcg.specs.Lcg.{Lcg}
use Rattle.rand_pcg.specs.Pcg.{pcg32_of_seed}

-- the first number of a list; 0 where the list is empty
abbrev pub first_number : List ℕ → ℕ
first_number [] = 0
first_number (n ∷ ns) = n

-- the state with which the PCG32 generator of this seed begins
abbrev pub seeded : ℕ → Lcg
seeded seed = pcg32_of_seed (pcg32_seed 16 seed)
