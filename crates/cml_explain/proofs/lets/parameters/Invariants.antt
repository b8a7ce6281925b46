use Rattle.std.proofs.Common.{◌≡◌, map, take}
use Rattle.cml_explain.specs.Names.{parameter_declared}
use Rattle.cml_explain.specs.Views.{all_declared}
use Rattle.cml_explain.proofs.lets.parameters.Given as goal

abbrev pub invariant-loop-form : goal.invariant-loop-form
invariant-loop-form l = all_declared l.found.items ≡ map parameter_declared (take l.form-index l.form-items)
