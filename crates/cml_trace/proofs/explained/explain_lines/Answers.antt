use Rattle.std.proofs.Common.{rules, ◌≡◌, []}
use Rattle.cml_trace.proofs.ExplainedLemmas.{Telling-on, told_bad, told_end}
use Rattle.cml_trace.proofs.explained.explain_lines.Goals as goal

pub loop-number-preserved : goal.loop-number-preserved
loop-number-preserved g c =
    Telling-on c.args.book.now c.args.lines.now c.loop-number.book c.do_order.new.book c.loop-number.lines c.next.new.self c.args.told.now.items
    c.loop-number.told.items c.do_order.new.told.items c.in-Some.number c.in-Some.line.now c.in-Some-2.order c.loop-number.invariant
    c.in-Some.ensures.number c.in-Some.ensures.line c.in-Some.ensures.next (rw c.in-Some-2.is at c.in_ok-order.ensures) c.in_ok-do_order-in-Some-2.ensures.world
    c.in_ok-do_order-in-Some-2.ensures.told

pub returns-in-None : goal.returns-in-None
returns-in-None g c =
    told_bad c.tell_bad.result c.args.book.now c.args.lines.now c.loop-number.book c.loop-number.lines c.args.told.now.items c.loop-number.told.items
    c.tell_bad.new.told.items c.in-Some.number c.in-Some.line.now c.next.new.self.left c.loop-number.invariant c.in-Some.ensures.number c.in-Some.ensures.line
    (rw c.in-None.is at c.in_ok-order.ensures) c.tell_bad.ensures

pub returns : goal.returns
returns g c =
    let none : c.loop-number.lines.left ≡ [] = search rules in
    told_end c.args.book.now c.args.lines.now c.loop-number.book c.loop-number.lines c.args.told.now.items c.loop-number.told.items c.loop-number.invariant none
