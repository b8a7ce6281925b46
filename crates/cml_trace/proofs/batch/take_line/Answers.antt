use Rattle.cml_trace.specs.Orders.{AsksFor}
use Rattle.cml_trace.proofs.batch.take_line.Goals as goal

pub returns-in-Ok-Some-clause-stops : goal.returns-in-Ok-Some-clause-stops
returns-in-Ok-Some-clause-stops c = λ behind.
    let asks : AsksFor c.args.line.now c.in-Ok-Some.order = rw c.in-Ok-Some.field-0-is at c.in-Ok-Some.ensures in
    c.take_order.ensures.stops c.args.number c.args.line.now behind asks
