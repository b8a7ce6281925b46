use Rattle.std.proofs.Common.{map}
use Rattle.cml_verify.proofs.Faulting.{are_faults}
use Rattle.cml_verify.proofs.faults.all_faults.Goals as goal

pub places_of_faults-requires : goal.places_of_faults-requires
places_of_faults-requires c = c.requires.edges.each

pub schedules_by-requires-clause-each : goal.schedules_by-requires-clause-each
schedules_by-requires-clause-each c = rw c.as_slice.ensures.value c.in_ok-told.ensures.each

pub returns : goal.returns
returns c = λ most found.
    let system = c.args.system.now in
    let keys = c.args.found.now.kept.keys in
    are_faults system.program system.with_output keys c.in_ok-told.told.items c.in_ok-told.ensures.each (map (λ schedule. schedule.items) c.in_ok-schedules.schedules.items)
    (rw c.as_slice.ensures.value at c.in_ok-schedules.ensures) c.args.found.now.followed c.args.found.now.edges.items c.requires.edges c.in_ok-told.ensures.noted most found
