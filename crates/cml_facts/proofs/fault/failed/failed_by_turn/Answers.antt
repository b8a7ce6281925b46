use Rattle.cml_schedule.specs.declared.item.Item.TheVariants.{Turn}
use Rattle.cml_facts.proofs.FailedLemmas.{nobody_fails, thread_fails}
use Rattle.cml_facts.proofs.fault.failed.failed_by_turn.Goals as goal

pub returns-then-after-before-clause-failed : goal.returns-then-after-before-clause-failed
returns-then-after-before-clause-failed c =
    nobody_fails c.args.hub.now.course c.come.new.hub.course (Turn c.args.thread) c.faults-before.result c.faults-after.result
    c.schedule-so_far.ensures.leads c.in_ok-come.ensures.adds c.faults-before.ensures c.faults-after.ensures c.if-after-before.true

pub returns-clause-failed : goal.returns-clause-failed
returns-clause-failed c =
    thread_fails c.args.hub.now.course c.come.new.hub.course c.args.thread c.in_ok-machine.machine c.faults-before.result c.faults-after.result
    c.schedule-so_far.ensures.leads c.in_ok-come.ensures.adds c.in_ok-machine.ensures.machine c.in_ok-machine.ensures.thread c.in_ok-machine.ensures.goes
    c.faults-before.ensures c.faults-after.ensures c.if-after-before.false
