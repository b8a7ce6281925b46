use Rattle.std.proofs.Common.{◌≡◌, drop}
use Rattle.cml_check.specs.Syntax.{exprs}
use Rattle.cml_step.specs.Variables.{slot_value}
use Rattle.cml_step.specs.Evaluate.{evaluate_all}
use Rattle.cml_step.proofs.Prefixes.{prefixed}
use Rattle.cml_step.proofs.expression.evaluate_in.Given as goal

abbrev pub invariant-loop-e : goal.invariant-loop-e
invariant-loop-e l =
    evaluate_all (slot_value l.slots) (exprs l.e-items)
    ≡ prefixed l.found.items (evaluate_all (slot_value l.slots) (exprs (drop l.e-index l.e-items)))
