use Rattle.std.proofs.Common.{◌≡◌, ◌+◌, ◌*◌, drop, map, length, true, max}
use Rattle.cml_text.specs.Forms.{plain_forms, nesting, nesting_of}
use Rattle.cml_check.specs.Syntax.{stmt_map, name_at, stmts}
use Rattle.cml_check.specs.Heads.{arities_of}
use Rattle.cml_check.specs.InOrder.{stmts_fit}
use Rattle.cml_check.specs.Statements.{stmts_in}
use Rattle.cml_check.specs.StatementParts.{Grows}
use Rattle.cml_check.proofs.GrowthLemmas.{front}
use Rattle.cml_check.proofs.statement.+statement.Given as goal

-- what was found, and what is left, is what all are
abbrev pub invariant-statements-loop-form : goal.invariant-statements-loop-form
invariant-statements-loop-form l = record {
  left : front (map (stmt_map (name_at l.scope.names)) l.items.items) (stmts_in l.heads l.scope (plain_forms (drop l.form-index l.forms))) ≡ stmts_in l.heads l.fn.scope (plain_forms l.forms);
  fits : stmts_fit (arities_of l.heads) (length l.scope.names) (stmts l.items.items) ≡ true;
  grows : Grows l.fn.scope.names l.scope.names;
}

abbrev pub decreases-statement : goal.decreases-statement
decreases-statement l = 5 * nesting l.form.now

abbrev pub decreases-list_statement : goal.decreases-list_statement
decreases-list_statement l = 5 * nesting_of (plain_forms l.behind.now) + 4

abbrev pub decreases-if_statement : goal.decreases-if_statement
decreases-if_statement l = 5 * nesting_of (plain_forms l.behind.now) + 3

abbrev pub decreases-tested_statement : goal.decreases-tested_statement
decreases-tested_statement l = 5 * nesting_of (plain_forms l.behind.now) + 3

abbrev pub decreases-block : goal.decreases-block
decreases-block l = 5 * nesting l.form.now

abbrev pub decreases-statements : goal.decreases-statements
decreases-statements l = 5 * nesting_of (plain_forms l.forms.now) + 1

abbrev pub decreases-branch : goal.decreases-branch
decreases-branch l = 5 * max (nesting l.then.now) (nesting l.other.now) + 2

abbrev pub decreases-tested : goal.decreases-tested
decreases-tested l = 5 * nesting_of (plain_forms l.body.now) + 2

abbrev pub decreases-do_block : goal.decreases-do_block
decreases-do_block l = 5 * nesting_of (plain_forms l.behind.now) + 3
