use Rattle.std.proofs.Common.{◌≡◌, ◌++◌, drop}
use Rattle.cml_scan.specs.Scan.{pairs_with}
use Rattle.cml_scan.proofs.plain.push_pairs.Given as goal

-- what was put there, and what is left, are the rows of all
abbrev pub invariant-loop-other : goal.invariant-loop-other
invariant-loop-other l = l.rows.items ++ pairs_with (drop l.other-index l.offers) l.head ≡ l.fn.rows.items ++ pairs_with l.offers l.head
