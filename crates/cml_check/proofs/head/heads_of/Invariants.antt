use Rattle.std.proofs.Common.{◌≡◌, ◌≤◌, drop, [], length}
use Rattle.cml_check.specs.Heads.{heads_from}
use Rattle.cml_check.specs.HeadViews.{plain_heads, head_names}
use Rattle.cml_check.proofs.head.heads_of.Given as goal

-- what is left, after those found, is what all are
abbrev pub invariant-loop-form : goal.invariant-loop-form
invariant-loop-form l = record {
  left : heads_from (plain_heads l.items.items) (drop l.form-index l.forms) ≡ heads_from [] l.forms;
  named : l.names ≡ head_names (plain_heads l.items.items);
  few : length l.items.items ≤ 1024;
}
