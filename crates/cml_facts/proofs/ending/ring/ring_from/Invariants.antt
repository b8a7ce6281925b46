use Rattle.std.proofs.Common.{◌≡◌, ◌-◌, length}
use Rattle.cml_facts.specs.Rings.{ring_from, way_to}
use Rattle.cml_facts.proofs.RingLemmas.{onward}
use Rattle.cml_facts.proofs.ending.ring.ring_from.Given as goal

-- the way so far, with what is left of it, is the ring
abbrev pub invariant-loop-step : goal.invariant-loop-step
invariant-loop-step l = onward l.way.items (way_to l.nexts l.start (length l.nexts - l._step) l.next) ≡ ring_from l.nexts l.start
