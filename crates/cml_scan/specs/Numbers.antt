-- A row as it is written.
use Rattle.std.specs.Prelude.{ℕ, List, ◌++◌, codes}
use Rattle.std.specs.Fmt.{decimal}
use Rattle.cml_scan.specs.declared.meet.Meet.{Meet}
use Rattle.cml_scan.specs.declared.meet.Meet.TheVariants.{Single, Pair}

-- a number in decimal, after a space
abbrev pub spaced : ℕ → List ℕ
spaced n = codes " " ++ decimal n

-- the threads and leaves of a row, each after a space; of a pair the head first
abbrev pub numbers_of : Meet → List ℕ
numbers_of (Single t n) = spaced t.0 ++ spaced n
numbers_of (Pair h i o j) = spaced h.0 ++ spaced i ++ spaced o.0 ++ spaced j
