use Rattle.std.proofs.Common.{◌≡◌, ◌≤◌, ◌+◌, ◌*◌, length, drop}
use Rattle.std.specs.List.{filter}
use Rattle.cml_index.specs.Posts as spec
use Rattle.cml_index.specs.Waits.{lit_wait}
use Rattle.cml_index.proofs.flags.count_lit.Given as goal

-- those counted, and those that are left, are all
abbrev pub invariant-loop-wait : goal.invariant-loop-wait
invariant-loop-wait l = record {
  count : l.count + length (filter (lit_wait (spec.told l.flags.entries)) (drop l.wait-index l.waits)) ≡ length (filter (lit_wait (spec.told l.flags.entries)) l.waits);
  within : l.count ≤ l.wait-index;
  cost : l.tally ≤ l.fn.tally + 2 * l.wait-index;
}
