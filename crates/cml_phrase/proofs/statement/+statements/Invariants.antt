use Rattle.std.proofs.Common.{◌≡◌, ◌+◌, ◌*◌, ◌++◌, drop, map, max}
use Rattle.cml_text.specs.Forms.{plain_forms, nesting, nesting_of}
use Rattle.cml_phrase.specs.Statements.{all_statements}
use Rattle.cml_phrase.proofs.statement.+statements.Given as goal

-- the statements that were added and those of the forms that are left are all
abbrev pub invariant-add_statements-loop-form : goal.invariant-add_statements-loop-form
invariant-add_statements-loop-form l = map (λ s. s.now) l.found.items
    ++ all_statements (plain_forms (drop l.form-index l.forms)) ≡ map (λ s. s.now) l.fn.found.items
    ++ all_statements (plain_forms l.forms)

abbrev pub decreases-add_statements : goal.decreases-add_statements
decreases-add_statements l = 5 * nesting_of (plain_forms l.forms.now) + 1

abbrev pub decreases-add_statement : goal.decreases-add_statement
decreases-add_statement l = 5 * nesting l.form.now

abbrev pub decreases-add_inner : goal.decreases-add_inner
decreases-add_inner l = 5 * nesting_of (plain_forms l.behind.now) + 4

abbrev pub decreases-add_branches : goal.decreases-add_branches
decreases-add_branches l = 5 * nesting_of (plain_forms l.behind.now) + 3

abbrev pub decreases-add_both : goal.decreases-add_both
decreases-add_both l = 5 * max (nesting l.then.now) (nesting l.other.now) + 2

abbrev pub decreases-add_body : goal.decreases-add_body
decreases-add_body l = 5 * nesting_of (plain_forms l.behind.now) + 3

abbrev pub decreases-add_block : goal.decreases-add_block
decreases-add_block l = 5 * nesting l.form.now
