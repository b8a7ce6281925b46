use Rattle.std.proofs.Common.{◌≡◌, ◌≤◌, ◌+◌, ◌*◌, ◌++◌, drop}
use Rattle.cml_picture.specs.Layouts as spec
use Rattle.cml_picture.proofs.layout.frame.edges_from.Given as goal

abbrev pub invariant-loop-column : goal.invariant-loop-column
invariant-loop-column l = (l.edges.items ++ spec.edges_from l.x (drop l.column-index l.columns) ≡ spec.edges_from l.start l.columns) × (l.x ≤ l.start + 65535 * l.column-index)
