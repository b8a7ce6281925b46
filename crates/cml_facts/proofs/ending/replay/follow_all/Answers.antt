use Rattle.std.proofs.Common.{arith}
use Rattle.cml_step.specs.Calls.{text_of}
use Rattle.cml_facts.specs.Takes.{KnowsTakers}
use Rattle.cml_facts.proofs.AgainLemmas.{is_next, next_is_allowed, goes_on_again, holds_on, holds_of_all}
use Rattle.cml_facts.proofs.ending.replay.follow_all.Goals as goal

pub come-requires-clause-allowed : goal.come-requires-clause-allowed
come-requires-clause-allowed c =
    next_is_allowed _ _ _ _ _ (is_next c.schedule-items.result.now c.args.hub.now c.loop-i.second c.loop-i.i (omega arith) c.schedule-items.ensures.items c.loop-i.invariant.gone)
    c.schedule-items.ensures.leads c.schedule-so_far.ensures.leads

pub loop-i-init : goal.loop-i-init
loop-i-init c = record { gone = c.requires.begun; knows = c.requires.none_taken }

pub loop-i-preserved : goal.loop-i-preserved
loop-i-preserved c =
    let next = is_next c.schedule-items.result.now c.args.hub.now c.loop-i.second c.loop-i.i (omega arith) c.schedule-items.ensures.items c.loop-i.invariant.gone in
    record {
      gone = goes_on_again _ _ _ _ _ _ next c.in_ok-come.ensures;
      knows = holds_on (λ p xs. KnowsTakers (text_of p) xs c.loop-i.takers) (λ p xs. KnowsTakers (text_of p) xs c.follow.new.self)
          _ _ _ _ _ next c.in_ok-follow.ensures.ok c.loop-i.invariant.knows;
    }

pub returns : goal.returns
returns c =
    holds_of_all (λ xs. KnowsTakers (text_of c.args.hub.now.course.program) xs c.loop-i.takers)
    c.schedule-items.result.now _ c.loop-i.i c.schedule-items.ensures.items c.loop-i-test.false c.loop-i.invariant.knows
