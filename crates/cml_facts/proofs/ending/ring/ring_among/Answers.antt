use Rattle.std.proofs.Common.{ap, sym, ◌∙◌, length}
use Rattle.cml_facts.specs.Rings.{ring_from}
use Rattle.cml_facts.proofs.RingLemmas.{first_next}
use Rattle.cml_facts.proofs.ending.ring.ring_among.Goals as goal

pub loop-i-preserved : goal.loop-i-preserved
loop-i-preserved c =
    let found = rw c.in-None.is at c.in_ok-ring.ensures in
    first_next c.args.nexts.now (length c.args.nexts.now) c.loop-i.i _ c.loop-i-test.true (ap (ring_from c.args.nexts.now) (sym c.in_ok-number.ensures) ∙ sym found) c.loop-i.invariant
