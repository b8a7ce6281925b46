use Rattle.std.proofs.Common.{◌<◌, ◌≤◌, arith, subst, length}
use Rattle.cml_step.specs.Calls.{text_of}
use Rattle.cml_hub.specs.Courses.{run_of}
use Rattle.cml_facts.proofs.AgainLemmas.{is_next, next_is_allowed, goes_on_again}
use Rattle.cml_judge.proofs.SpotLemmas.{leads_so, none_printed, none_printed_more, none_printed_at_all, spot_next}
use Rattle.cml_judge.proofs.spot.spot_in.Goals as goal

pub come-requires-clause-allowed : goal.come-requires-clause-allowed
come-requires-clause-allowed c =
    next_is_allowed _ _ _ _ _ (is_next c.schedule-items.result.now c.args.hub.now c.loop-i.second c.loop-i.i (omega arith) c.schedule-items.ensures.items c.loop-i.invariant.gone)
    c.schedule-items.ensures.leads c.schedule-so_far.ensures.leads

pub loop-i-init : goal.loop-i-init
loop-i-init c = record {
  gone = c.requires.begun;
  none = none_printed (text_of c.args.hub.now.course.program) c.args.hub.now.course.items c.args.at;
}

pub loop-i-preserved : goal.loop-i-preserved
loop-i-preserved c =
    let h = c.args.hub.now in
    let next = is_next c.schedule-items.result.now h c.loop-i.second c.loop-i.i (omega arith) c.schedule-items.ensures.items c.loop-i.invariant.gone in
    let gone = goes_on_again _ _ _ _ _ _ next c.in_ok-come.ensures in
    record {
      gone = gone;
      none = none_printed_more (text_of h.course.program) h.course.items c.args.at c.loop-i.i _ (leads_so h _ _ gone c.schedule-by_now.ensures.leads)
          (subst (λ out. length out ≤ c.args.at) c.out-printed.ensures (omega arith)) c.loop-i.invariant.none;
    }

pub returns-then-printed-at : goal.returns-then-printed-at
returns-then-printed-at c =
    let h = c.args.hub.now in
    let next = is_next c.schedule-items.result.now h c.loop-i.second c.loop-i.i (omega arith) c.schedule-items.ensures.items c.loop-i.invariant.gone in
    spot_next _ h _ _ c.args.at c.loop-i.i _ c.turn_spot.result _ next c.in_ok-come.ensures c.schedule-so_far.ensures.leads c.schedule-by_now.ensures.leads c.turn_spot.ensures
    (subst (λ out. c.args.at < length out) c.out-printed.ensures (omega arith)) c.loop-i.invariant.none

pub returns : goal.returns
returns c =
    let h = c.args.hub.now in
    none_printed_at_all (text_of h.course.program) c.schedule-items.result.now h.course.items c.args.at c.loop-i.i (run_of h.course) c.schedule-items.ensures.items
    c.loop-i-test.false c.schedule-items.ensures.leads c.loop-i.invariant.none
