-- What a thread gets that goes on after a commit.
use Rattle.std.specs.Prelude.{ℕ, List}
use Rattle.cml_value.specs.Value.{PlainValue, PlainFunction}

-- the thread, the value of its event, the functions that the value then goes through, innermost first, and the nacks that fired
-- because their branches lack the leaf that was chosen
pub record PlainResume : Type 0 where
  pub thread : ℕ
  pub value : PlainValue
  pub wraps : List PlainFunction
  pub fired : List ℕ
