use Rattle.std.proofs.Common.{arith, subst}
use Rattle.cml_facts.specs.Failed.{FailsSo}
use Rattle.cml_facts.specs.FaultViews.{plain_sources}
use Rattle.cml_facts.proofs.FailureLemmas.{always, none_more, past_more, one_more}
use Rattle.cml_facts.proofs.fault.faults.follow_item.Goals as goal

pub returns-then-before-ge-FAULT_LIMIT-clause-told : goal.returns-then-before-ge-FAULT_LIMIT-clause-told
returns-then-before-ge-FAULT_LIMIT-clause-told c =
    always c.come.result (past_more (plain_sources c.args.sources.now) c.args.second.now.course.program c.args.second.now.course c.args.item c.faults-before.result c.args.first.now.items
    c.schedule-so_far.ensures.leads c.faults-before.ensures c.if-before-ge-FAULT_LIMIT.true)

pub returns-in_ok-push-in-Some-clause-told : goal.returns-in_ok-push-in-Some-clause-told
returns-in_ok-push-in-Some-clause-told c =
    one_more (plain_sources c.args.sources.now) c.args.second.now.course c.args.sources.now.hub.now.course.program c.args.item c.in-Some.machine c.faults-before.result _ c.args.first.now.items _
    c.requires.program c.faults-before.ensures (omega (arith, c.if-before-ge-FAULT_LIMIT.false)) (subst (FailsSo c.args.second.now.course c.args.item) c.in-Some.is c.in_ok-failed.ensures.failed)
    c.in_ok-next_fault-in-Some.ensures c.in_ok-push-in-Some.ensures.items

pub returns-in-None-clause-told : goal.returns-in-None-clause-told
returns-in-None-clause-told c =
    none_more (plain_sources c.args.sources.now) c.args.second.now.course.program c.args.second.now.course c.args.item c.args.first.now.items
    (subst (FailsSo c.args.second.now.course c.args.item) c.in-None.is c.in_ok-failed.ensures.failed)
