use Rattle.std.proofs.Common.{◌≡◌, ◌-◌, ◌+◌, ℕ, List, true, vec_len, length, take, ◌≤◌}
use Rattle.cml_check.specs.Syntax.{Name}
use Rattle.cml_step.specs.Variables.{bound}
use Rattle.cml_step.specs.Agrees.{all_agree}
use Rattle.cml_step.proofs.call.pad_in_full.Given as goal

abbrev pub invariant-loop-slots : goal.invariant-loop-slots
invariant-loop-slots l = record {
  same : (names : List Name) → bound names l.slots.items ≡ bound names l.fn.slots.items;
  had : take (length l.fn.slots.items) l.slots.items ≡ l.fn.slots.items;
  long : length l.fn.slots.items ≤ length l.slots.items;
  agree : (fs : List ℕ) → all_agree fs l.fn.slots.items ≡ true → all_agree fs l.slots.items ≡ true;
}

abbrev pub decreases-loop-slots : goal.decreases-loop-slots
decreases-loop-slots l = l.slot + 1 - vec_len l.slots
