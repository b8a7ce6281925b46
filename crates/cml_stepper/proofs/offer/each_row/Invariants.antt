use Rattle.std.proofs.Common.{◌≡◌, map, take}
use Rattle.cml_facts.specs.Turns.{began_in}
use Rattle.cml_stepper.specs.Offers.{offered_row}
use Rattle.cml_stepper.proofs.offer.each_row.Given as goal

abbrev pub invariant-loop-meet : goal.invariant-loop-meet
invariant-loop-meet l = let c = l.hub.course in l.rows.items ≡ map (offered_row c.world (began_in c)) (take l.meet-index l.meets)
