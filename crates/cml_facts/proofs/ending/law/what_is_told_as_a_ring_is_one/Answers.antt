use Rattle.cml_facts.proofs.RingLaws.{is_ring}
use Rattle.cml_facts.proofs.BlockedLaws.{last_ring}
use Rattle.cml_facts.proofs.ending.law.what_is_told_as_a_ring_is_one.Goals as goal

pub returns : goal.returns
returns c = record { last = last_ring; ring = is_ring }
