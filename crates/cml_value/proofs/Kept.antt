-- What is kept of a depth or a number of nodes is within a limit exactly where the number is.
use Rattle.std.proofs.Common.{◌≡◌, ℕ, ◌<◌, arith}
use Rattle.std.specs.Prelude.{nat_le}
use Rattle.std.proofs.lemmas.Bool.Decides.{nat_tests}
use Rattle.cml_value.specs.Sizes.{kept}

pub nat_le-kept : (n limit : ℕ) → limit < 18446744073709551615 → nat_le (kept n) limit ≡ nat_le n limit
nat_le-kept n limit h = grind (arith, nat_tests)

pub ruleset kept_within = (nat_le-kept)
