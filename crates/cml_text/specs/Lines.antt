-- The lines of a text, and how lines are written.
use Rattle.std.specs.Prelude.{ℕ, ◌==◌, if◌then◌else◌, List, [], ◌∷◌, ◌++◌}
use Rattle.std.specs.List.{onto_first}

-- a line ends with a line feed (10)
abbrev pub line : List ℕ → List ℕ
line bytes = bytes ++ 10 ∷ []

-- The lines of a text. A line feed ends a line and begins none: what stands after the last line feed is a line where something
-- stands there.
abbrev pub lines : List ℕ → List (List ℕ)
lines [] = []
lines (b ∷ bytes) = if b == 10 then [] ∷ lines bytes else onto_first b (lines bytes)

-- the lines that are left, and the number of the first of them
pub record PlainLines : Type 0 where
  pub number : ℕ
  pub left : List (List ℕ)
