use Rattle.std.proofs.Common.{◌≡◌, ◌+◌, ◌*◌, drop, map, length, true}
use Rattle.cml_text.specs.Forms.{plain_forms, nesting, nesting_of}
use Rattle.cml_check.specs.Syntax.{expr_map, name_at, exprs}
use Rattle.cml_check.specs.Heads.{arities_of}
use Rattle.cml_check.specs.InOrder.{exprs_fit}
use Rattle.cml_check.specs.Expressions.{exprs_in}
use Rattle.cml_check.proofs.ExpressionLemmas.{front}
use Rattle.cml_check.proofs.expression.+expression.Given as goal

-- what was found, and what is left, is what all are
abbrev pub invariant-expressions-loop-form : goal.invariant-expressions-loop-form
invariant-expressions-loop-form l = record {
  left : front (map (expr_map (name_at l.names)) l.items.items) (exprs_in l.heads l.names (plain_forms (drop l.form-index l.forms))) ≡ exprs_in l.heads l.names (plain_forms l.forms);
  fits : exprs_fit (arities_of l.heads) (length l.names) (exprs l.items.items) ≡ true;
  count : length l.items.items ≡ l.form-index;
}

abbrev pub decreases-expression : goal.decreases-expression
decreases-expression l = 5 * nesting l.form.now

abbrev pub decreases-list_expression : goal.decreases-list_expression
decreases-list_expression l = 5 * nesting_of (plain_forms l.behind.now) + 4

abbrev pub decreases-unary : goal.decreases-unary
decreases-unary l = 5 * nesting_of (plain_forms l.behind.now) + 3

abbrev pub decreases-binary : goal.decreases-binary
decreases-binary l = 5 * nesting_of (plain_forms l.behind.now) + 3

abbrev pub decreases-wrap : goal.decreases-wrap
decreases-wrap l = 5 * nesting_of (plain_forms l.behind.now) + 3

abbrev pub decreases-function_call : goal.decreases-function_call
decreases-function_call l = 5 * nesting_of (plain_forms l.behind.now) + 2

abbrev pub decreases-expressions : goal.decreases-expressions
decreases-expressions l = 5 * nesting_of (plain_forms l.forms.now) + 1

abbrev pub decreases-choose : goal.decreases-choose
decreases-choose l = 5 * nesting_of (plain_forms l.behind.now) + 3

abbrev pub decreases-guard : goal.decreases-guard
decreases-guard l = 5 * nesting_of (plain_forms l.behind.now) + 3

abbrev pub decreases-with_nack : goal.decreases-with_nack
decreases-with_nack l = 5 * nesting_of (plain_forms l.behind.now) + 3
