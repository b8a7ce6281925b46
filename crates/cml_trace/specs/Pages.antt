-- Text that is told: it waits until there is enough of it, and is then written.
use Rattle.std.specs.Prelude.{◌≡◌, ℕ, List, ◌++◌}
use Rattle.cml_stream.specs.Streams.{Stream, Takes}

-- This text was told after what waited: a first part of the two together was written, and the rest waits.
pub record Tells (waited waits : List ℕ) (output : Stream) (text : List ℕ) : Type 0 where
  pub part : List ℕ
  pub written : Takes output part
  pub whole : waited ++ text ≡ part ++ waits

-- At most a prefix of this text was told after what waited: a first part of the two together was written, and what waits comes next.
pub record TellsStart (waited waits : List ℕ) (output : Stream) (text : List ℕ) : Type 0 where
  pub part : List ℕ
  pub untold : List ℕ
  pub written : Takes output part
  pub whole : waited ++ text ≡ part ++ (waits ++ untold)
