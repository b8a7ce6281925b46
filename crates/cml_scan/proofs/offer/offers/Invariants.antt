use Rattle.std.proofs.Common.{◌≡◌, ◌++◌, drop, map}
use Rattle.cml_scan.specs.World.{pending, pending_from}
use Rattle.cml_scan.specs.Scan.{offers_of}
use Rattle.cml_scan.specs.Views.{thread_of}
use Rattle.cml_scan.proofs.offer.offers.Given as goal

-- what was put there, and what is left, are the leaves of all
abbrev pub invariant-loop-tid : goal.invariant-loop-tid
invariant-loop-tid l = l.all.items ++ offers_of (pending_from l.tid (map thread_of (drop l.tid l.state-items))) ≡ offers_of (pending l.world)
