use Rattle.std.proofs.Common.{◌≡◌, ◌≤◌, length, map, arith}
use Rattle.cml_text.specs.Forms.{nesting, nesting_of, plain_forms}
use Rattle.cml_check.proofs.ExpressionLemmas.{member-below}
use Rattle.cml_phrase.proofs.StatementLemmas.{both_branches}
use Rattle.cml_phrase.proofs.statement.+statements.Goals as goal

-- a form of the list lies lower than the list
pub add_statements-add_statement-requires : goal.add_statements-add_statement-requires
add_statements-add_statement-requires t c =
    let below : nesting c.form-item.result ≤ nesting_of (plain_forms c.args.forms.now) =
    member-below c.args.forms.now c.loop-form.form-index c.form-item.result c.loop-form-test.true c.form-item.is in
    let start = c.decreases in
    (omega arith, tt)

-- so do both branches
pub add_branches-add_both-requires : goal.add_branches-add_both-requires
add_branches-add_both-requires t c =
    let at : length c.args.behind.now ≡ 3 = omega arith in
    let first : nesting c.then-item.result ≤ nesting_of (plain_forms c.args.behind.now) = member-below c.args.behind.now 1 c.then-item.result (omega arith) c.then-item.is in
    let second : nesting c.other-item.result ≤ nesting_of (plain_forms c.args.behind.now) = member-below c.args.behind.now 2 c.other-item.result (omega arith) c.other-item.is in
    let start = c.decreases in
    (omega arith, tt)

pub add_branches-returns : goal.add_branches-returns
add_branches-returns t c =
    both_branches (map (λ s. s.now) c.args.found.now.items) _ c.args.behind.now c.then-item.result c.other-item.result
    (omega arith) (omega arith) c.then-item.is c.other-item.is c.in_ok-add_both.ensures
