use Rattle.std.proofs.Common.{◌≡◌, ◌*◌, ◌+◌, drop, max}
use Rattle.cml_check.specs.Syntax.{exprs, expr_depth, exprs_depth}
use Rattle.cml_step.specs.Variables.{slot_value}
use Rattle.cml_step.specs.Evaluate.{evaluate_all}
use Rattle.cml_step.proofs.Prefixes.{prefixed}
use Rattle.cml_step.proofs.expression.+evaluate.Given as goal

abbrev pub invariant-evaluate_all-loop-e : goal.invariant-evaluate_all-loop-e
invariant-evaluate_all-loop-e l =
    evaluate_all (slot_value l.slots) (exprs l.e-items)
    ≡ prefixed l.found.items (evaluate_all (slot_value l.slots) (exprs (drop l.e-index l.e-items)))

-- a part of an expression comes before the whole, and so do the ways to its value one after another
abbrev pub decreases-evaluate : goal.decreases-evaluate
decreases-evaluate l = 5 * expr_depth l.expression.now + 2

abbrev pub decreases-computed : goal.decreases-computed
decreases-computed l = 5 * expr_depth l.expression.now + 1

abbrev pub decreases-in_full : goal.decreases-in_full
decreases-in_full l = 5 * expr_depth l.expression.now

abbrev pub decreases-unary_in_full : goal.decreases-unary_in_full
decreases-unary_in_full l = 5 * expr_depth l.e.now + 4

abbrev pub decreases-part_in_full : goal.decreases-part_in_full
decreases-part_in_full l = 5 * expr_depth l.e.now + 3

abbrev pub decreases-binary_in_full : goal.decreases-binary_in_full
decreases-binary_in_full l = 5 * max (expr_depth l.d.now) (expr_depth l.e.now) + 4

abbrev pub decreases-choose_in_full : goal.decreases-choose_in_full
decreases-choose_in_full l = 5 * exprs_depth l.es.now + 4

abbrev pub decreases-wrap_in_full : goal.decreases-wrap_in_full
decreases-wrap_in_full l = 5 * max (expr_depth l.e.now) (exprs_depth l.es.now) + 4

abbrev pub decreases-evaluate_all : goal.decreases-evaluate_all
decreases-evaluate_all l = 5 * exprs_depth l.expressions.now
