use Rattle.std.proofs.Common.{◌≡◌, ◌++◌, drop, map}
use Rattle.std.specs.List.{filter}
use Rattle.cml_value.specs.Group.{bases}
use Rattle.cml_scan.specs.Light.{lit_by}
use Rattle.cml_scan.specs.Scan.{single, leaves_from}
use Rattle.cml_index.specs.Posts as spec
use Rattle.cml_index.proofs.rows.push_singles_of.Given as goal

-- what was put there, and the rows that are left, are the rows of all
abbrev pub invariant-loop-leaf : goal.invariant-loop-leaf
invariant-loop-leaf l = l.rows.items ++ map single (filter (λ o. lit_by (spec.told l.core.flags.entries) o.base) (leaves_from l.entry.thread l.leaf (drop l.leaf (bases l.entry.group))))
    ≡ l.fn.rows.items ++ map single (filter (λ o. lit_by (spec.told l.core.flags.entries) o.base) (leaves_from l.entry.thread 0 (bases l.entry.group)))
