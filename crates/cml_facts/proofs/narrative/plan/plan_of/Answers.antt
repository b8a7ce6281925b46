use Rattle.std.proofs.Common.{sym, ap}
use Rattle.cml_step.specs.AskViews.{plain_ask}
use Rattle.cml_facts.proofs.ToldTurnLemmas.{planned_is}
use Rattle.cml_facts.proofs.narrative.plan.plan_of.Goals as goal

pub returns : goal.returns
returns c =
    let slice = c.in_ok-slice.slice in
    let same = ap plain_ask c.asked-ask.ensures in
    let meant = rw (c.program.ensures, sym same) at c.in_ok-slice.ensures.meant in
    let stands = rw (c.program-2.ensures, sym same) at c.in_ok-spot.ensures in
    let number = rw (c.book.ensures, sym same) at c.number_asked-number.ensures in
    planned_is c.args.hub.now.course c.args.thread.0 c.args.machine.now slice.end slice.steps (record { spot = c.in_ok-spot.spot; ask = c.asked-ask.result; number = c.number_asked-number.result })
    c.requires.at c.requires.thread meant stands number
