-- What is said of a thread.
use Rattle.std.specs.Prelude.{ℕ, Option}
use Rattle.cml_value.specs.Value.{PlainFunction}

-- a thread, and the function with which it began, where that is known
pub record PlainWho : Type 0 where
  pub thread : ℕ
  pub began : Option PlainFunction
