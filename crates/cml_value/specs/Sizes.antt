-- What is kept with a value, a function, an event and a group, so that no walk is needed to measure it.
use Rattle.std.specs.Prelude.{ℕ, min}

-- A depth or a number of nodes is kept as it is up to 2^64 - 1, and a greater one as 2^64 - 1. That is far above any limit, so
-- what is kept is within a limit exactly where the number itself is.
abbrev pub kept : ℕ → ℕ
kept n = min n 18446744073709551615
