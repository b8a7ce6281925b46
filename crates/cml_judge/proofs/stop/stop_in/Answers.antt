use Rattle.std.proofs.Common.{◌<◌, arith, length, subst}
use Rattle.cml_step.specs.Calls.{text_of}
use Rattle.cml_facts.proofs.AgainLemmas.{is_next, next_is_allowed, goes_on_again}
use Rattle.cml_judge.proofs.SpotLemmas.{leads_so}
use Rattle.cml_judge.proofs.StopLemmas.{none_come, come_again, none_come_more, come_behind, none_come_at_all}
use Rattle.cml_judge.proofs.stop.stop_in.Goals as goal

pub come-requires-clause-allowed : goal.come-requires-clause-allowed
come-requires-clause-allowed c =
    next_is_allowed _ _ _ _ _ (is_next c.schedule-items.result.now c.args.hub.now c.loop-i.second c.loop-i.i (omega arith) c.schedule-items.ensures.items c.loop-i.invariant.gone)
    c.schedule-items.ensures.leads c.schedule-so_far.ensures.leads

pub loop-i-init : goal.loop-i-init
loop-i-init c = record {
  gone = c.requires.begun;
  none = none_come c.args.at (text_of c.args.hub.now.course.program) c.args.hub.now.course.items;
}

pub loop-i-preserved : goal.loop-i-preserved
loop-i-preserved c =
    let h = c.args.hub.now in
    let next = is_next c.schedule-items.result.now h c.loop-i.second c.loop-i.i (omega arith) c.schedule-items.ensures.items c.loop-i.invariant.gone in
    let gone = goes_on_again _ _ _ _ _ _ next c.in_ok-come.ensures in
    record {
      gone = gone;
      none = none_come_more c.args.at (text_of h.course.program) h.course.items c.loop-i.i _ _ (leads_so h _ _ gone c.schedule-by_now.ensures.leads)
          (come_again h _ c.args.at _ _ gone c.has_come-stops.ensures) c.if-stops.false c.loop-i.invariant.none;
    }

pub returns-then-stops : goal.returns-then-stops
returns-then-stops c =
    let h = c.args.hub.now in
    let same = c.schedule-items.ensures.items in
    let next = is_next c.schedule-items.result.now h c.loop-i.second c.loop-i.i (omega arith) same c.loop-i.invariant.gone in
    let gone = goes_on_again _ _ _ _ _ _ next c.in_ok-come.ensures in
    come_behind c.args.at (text_of h.course.program) h.course.items c.loop-i.i _ _ (subst (λ xs. c.loop-i.i < length xs) same next.within)
    (leads_so h _ _ gone c.schedule-by_now.ensures.leads) (come_again h _ c.args.at _ _ gone c.has_come-stops.ensures) c.if-stops.true c.loop-i.invariant.none

pub returns : goal.returns
returns c =
    let h = c.args.hub.now in
    none_come_at_all c.args.at (text_of h.course.program) c.schedule-items.result.now h.course.items c.loop-i.i c.schedule-items.ensures.items c.loop-i-test.false c.loop-i.invariant.none
