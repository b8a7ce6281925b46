use Rattle.std.proofs.Common.{◌≡◌, ◌-◌, length}
use Rattle.cml_facts.specs.Rings.{first_ring, ring_among}
use Rattle.cml_facts.proofs.ending.ring.ring_among.Given as goal

-- the threads that are left have the first ring
abbrev pub invariant-loop-i : goal.invariant-loop-i
invariant-loop-i l = first_ring l.nexts l.i (length l.nexts - l.i) ≡ ring_among l.nexts
