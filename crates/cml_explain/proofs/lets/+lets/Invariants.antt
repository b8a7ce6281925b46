use Rattle.std.proofs.Common.{◌≡◌, ◌++◌, ◌+◌, ◌*◌, drop}
use Rattle.cml_text.specs.Forms.{plain_forms, nesting, nesting_of}
use Rattle.cml_explain.specs.Names.{lets_among}
use Rattle.cml_explain.specs.Views.{all_declared}
use Rattle.cml_explain.proofs.lets.+lets.Given as goal

-- what was found, and what is left, is what all are
abbrev pub invariant-push_lets_among-loop-form : goal.invariant-push_lets_among-loop-form
invariant-push_lets_among-loop-form l =
    all_declared l.found.items ++ lets_among (plain_forms (drop l.form-index l.forms)) ≡ all_declared l.initial.found.items ++ lets_among (plain_forms l.forms)

abbrev pub decreases-push_lets : goal.decreases-push_lets
decreases-push_lets l = 2 * nesting l.form.now

abbrev pub decreases-push_lets_among : goal.decreases-push_lets_among
decreases-push_lets_among l = 2 * nesting_of (plain_forms l.forms.now) + 1
