use Rattle.std.proofs.Common.{◌≡◌, ◌++◌, drop, map}
use Rattle.cml_objects.specs.Lanes.{those}
use Rattle.cml_index.specs.Heads.{pair_of}
use Rattle.cml_index.proofs.rows.push_lane.Given as goal

-- what was put there, and the rows that are left, are the rows of all
abbrev pub invariant-loop-j : goal.invariant-loop-j
invariant-loop-j l = l.rows.items ++ map (pair_of l.head) (drop l.j (those l.partner_threads l.lane.places)) ≡ l.fn.rows.items ++ map (pair_of l.head) (those l.partner_threads l.lane.places)
