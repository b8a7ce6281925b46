use Rattle.std.proofs.Common.{arith}
use Rattle.cml_step.specs.Calls.{text_of}
use Rattle.cml_facts.proofs.AgainLemmas.{is_next, next_is_allowed, goes_on_again, holds_on, holds_of_all}
use Rattle.cml_facts.specs.ThreadFaults.{AreThreadFaults}
use Rattle.cml_facts.specs.Failures.{first_failures}
use Rattle.cml_facts.specs.FaultViews.{plain_sources}
use Rattle.cml_facts.proofs.fault.faults.follow_all.Goals as goal

pub follow_item-requires-clause-allowed : goal.follow_item-requires-clause-allowed
follow_item-requires-clause-allowed c =
    next_is_allowed _ _ _ _ _ (is_next c.schedule-items.result.now c.args.sources.now.hub.now c.loop-i.second c.loop-i.i (omega arith) c.schedule-items.ensures.items c.loop-i.invariant.gone)
    c.schedule-items.ensures.leads c.schedule-so_far.ensures.leads

pub loop-i-preserved : goal.loop-i-preserved
loop-i-preserved c =
    let k = plain_sources c.args.sources.now in
    let next = is_next c.schedule-items.result.now c.args.sources.now.hub.now c.loop-i.second c.loop-i.i (omega arith) c.schedule-items.ensures.items c.loop-i.invariant.gone in
    record {
      gone = goes_on_again _ _ _ _ _ _ next c.in_ok-follow_item.ensures.came;
      known = holds_on (λ p xs. AreThreadFaults k p (first_failures (text_of p) xs) c.loop-i.first.items) (λ p xs. AreThreadFaults k p (first_failures (text_of p) xs) c.follow_item.new.first.items)
          _ _ _ _ _ next c.in_ok-follow_item.ensures.told c.loop-i.invariant.known;
    }

pub returns : goal.returns
returns c =
    let course = c.args.sources.now.hub.now.course in
    holds_of_all (λ xs. AreThreadFaults (plain_sources c.args.sources.now) course.program (first_failures (text_of course.program) xs) c.loop-i.first.items)
    c.schedule-items.result.now _ c.loop-i.i c.schedule-items.ensures.items c.loop-i-test.false c.loop-i.invariant.known
