-- The lines that are left.
use Rattle.std.specs.Prelude.{◌≢◌, ℕ, ◌+◌, All, List, [], length, Option, Some, None}
use Rattle.std.specs.Borrow.{Bor}
use Rattle.cml_trace.specs.Answers.{trace_lines}

-- the lines that are left, and the number of the first of them
pub record TraceLines : Type 0 where
  pub number : ℕ
  pub left : List (List ℕ)

-- the lines of this text, the first of which has this number
abbrev pub lines_from : ℕ → List ℕ → TraceLines
lines_from number text = record { number = number; left = trace_lines text }

-- no line ends in these bytes
abbrev pub HasNoFeed : List ℕ → Type 0
HasNoFeed bytes = All (λ b. b ≢ 10) bytes

-- the lines of what is left, or none where nothing is left
abbrev pub lines_behind : Option (Bor (List ℕ)) → List (List ℕ)
lines_behind None = []
lines_behind (Some rest) = trace_lines rest.now

-- how many more lines there are at most
abbrev pub room_of : Option (Bor (List ℕ)) → ℕ
room_of None = 0
room_of (Some rest) = length rest.now + 1
