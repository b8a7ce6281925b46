use Rattle.std.proofs.Common.{[], arith, refl}
use Rattle.cml_step.specs.Calls.{text_of}
use Rattle.cml_facts.specs.Takes.{KnowsTakers}
use Rattle.cml_facts.proofs.AgainLemmas.{is_next, next_is_allowed, goes_on_again, holds_on, holds_of_all}
use Rattle.cml_facts.specs.Falls.{AreFalls}
use Rattle.cml_facts.specs.FallViews.{fall_in}
use Rattle.cml_facts.proofs.FallLemmas.{begins_so}
use Rattle.cml_facts.proofs.fault.fall.follow_all.Goals as goal

pub follow_item-requires-clause-allowed : goal.follow_item-requires-clause-allowed
follow_item-requires-clause-allowed c =
    next_is_allowed _ _ _ _ _ (is_next c.schedule-items.result.now c.args.hub.now c.loop-i.second c.loop-i.i (omega arith) c.schedule-items.ensures.items c.loop-i.invariant.gone)
    c.schedule-items.ensures.leads c.schedule-so_far.ensures.leads

pub loop-i-init : goal.loop-i-init
loop-i-init c = record {
  gone = c.requires.begun;
  takers = c.requires.none_taken;
  falls = begins_so c.args.hub.now.course.program [] (fall_in c.args.falls.now) refl c.requires.none_fallen;
}

pub loop-i-preserved : goal.loop-i-preserved
loop-i-preserved c =
    let next = is_next c.schedule-items.result.now c.args.hub.now c.loop-i.second c.loop-i.i (omega arith) c.schedule-items.ensures.items c.loop-i.invariant.gone in
    record {
      gone = goes_on_again _ _ _ _ _ _ next c.in_ok-follow_item.ensures.came;
      takers = holds_on (λ p xs. KnowsTakers (text_of p) xs c.loop-i.takers) (λ p xs. KnowsTakers (text_of p) xs c.follow.new.self)
          _ _ _ _ _ next c.in_ok-follow.ensures.ok c.loop-i.invariant.takers;
      falls = holds_on (λ p xs. AreFalls p xs (fall_in c.loop-i.falls)) (λ p xs. AreFalls p xs (fall_in c.follow_item.new.falls))
          _ _ _ _ _ next c.in_ok-follow_item.ensures.falls c.loop-i.invariant.falls;
    }

pub returns : goal.returns
returns c =
    let course = c.args.hub.now.course in
    record {
      takers = holds_of_all (λ xs. KnowsTakers (text_of course.program) xs c.loop-i.takers) c.schedule-items.result.now _ c.loop-i.i
          c.schedule-items.ensures.items c.loop-i-test.false c.loop-i.invariant.takers;
      falls = holds_of_all (λ xs. AreFalls course.program xs (fall_in c.loop-i.falls)) c.schedule-items.result.now _ c.loop-i.i
          c.schedule-items.ensures.items c.loop-i-test.false c.loop-i.invariant.falls;
    }
