use Rattle.std.proofs.Common.{◌≡◌, ◌++◌, drop}
use Rattle.cml_scan.specs.Scan.{offers_of}
use Rattle.cml_library_tests.proofs.kept.offers.Given as goal

-- what was put there, and what is left, are the leaves of all
abbrev pub invariant-loop-e : goal.invariant-loop-e
invariant-loop-e l = l.offers.items ++ offers_of (drop l.e-index l.entries) ≡ offers_of l.entries
