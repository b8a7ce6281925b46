use Rattle.std.proofs.Common.{◌≡◌, drop}
use Rattle.std.specs.Prelude.{fold}
use Rattle.cml_verify.specs.Digests.{value_mixed}
use Rattle.cml_verify.proofs.digest.with_values.Given as goal

abbrev pub invariant-loop-value : goal.invariant-loop-value
invariant-loop-value l = fold value_mixed l.all (drop l.value-index l.values) ≡ fold value_mixed l.fn.digest l.values
