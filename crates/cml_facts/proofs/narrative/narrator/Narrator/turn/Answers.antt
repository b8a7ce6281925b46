use Rattle.std.proofs.Common.{ltb, length, refl, sym, ap}
use Rattle.cml_facts.proofs.ToldTurnLemmas.{came_told}
use Rattle.cml_facts.proofs.narrative.narrator.Narrator.turn.Goals as goal

pub returns-clause-came : goal.returns-clause-came
returns-clause-came c = λ knows.
    let came = c.if-not-branch.false in
    let follows = rw came at c.in_ok-follow.ensures.follows in
    came_told c.args.hub.now.course c.follow.new.hub.course c.args.thread c.follow.new.self c.args.number c.in_ok-came.came
    c.faults-faults.result c.faults.result (length c.out-printed.result.now) (ltb c.faults-faults.result c.faults.result)
    c.schedule-so_far.ensures.leads follows.course (c.in_ok-follow.ensures.knows came knows)
    c.faults-faults.ensures c.faults.ensures refl (ap length (sym c.out-printed.ensures))
    c.in_ok-came.ensures.went_on c.in_ok-came.ensures.fault
