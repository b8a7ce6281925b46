use Rattle.std.proofs.Common.{◌≡◌, drop}
use Rattle.std.specs.Prelude.{fold}
use Rattle.cml_verify.specs.Digests.{variable_mixed}
use Rattle.cml_verify.proofs.digest.with_variables.Given as goal

abbrev pub invariant-loop-variable : goal.invariant-loop-variable
invariant-loop-variable l = fold variable_mixed l.all (drop l.variable-index l.variables) ≡ fold variable_mixed l.fn.digest l.variables
