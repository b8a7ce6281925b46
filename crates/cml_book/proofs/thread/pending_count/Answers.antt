use Rattle.std.proofs.Common.{◌≡◌, ◌≤◌, ◌<◌, ◌+◌, length, sym, ◌∙◌, arith}
use Rattle.cml_book.proofs.PendingThreads.{other_counted, pending_counted, waits_if, else_not}
use Rattle.cml_book.proofs.thread.pending_count.Goals.{then-is_some, else-is_some}
use Rattle.cml_book.proofs.thread.pending_count.Goals as goal

pub loop-i-preserved : goal.loop-i-preserved
loop-i-preserved c =
    let lt : c.loop-i.i < length c.args.threads.now = search (arith, c.loop-i-test.true) in
    let few : c.loop-i.count ≤ c.loop-i.i = c.loop-i.invariant.few in
    elim c.if-is_some.branch [
      | then-is_some w ↦
          let waits = waits_if c.flat.result c.index-threads-i.result c.flat.ensures (sym c.is_some.ensures ∙ w.if-is_some.true) in
          record {
            counted = w.count-is ∙ pending_counted c.args.threads.now c.loop-i.i c.index-threads-i.result waits.0 c.loop-i.count lt c.index-threads-i.is waits.1 c.loop-i.invariant.counted;
            few = (let is : c.if-is_some.count ≡ c.loop-i.count + 1 = w.count-is in omega (arith, few, is));
          }
      | else-is_some w ↦
          let none = else_not c.flat.result c.index-threads-i.result c.flat.ensures (sym c.is_some.ensures ∙ w.if-is_some.false) in
          record {
            counted = w.count-is ∙ other_counted c.args.threads.now c.loop-i.i c.index-threads-i.result c.loop-i.count lt c.index-threads-i.is none c.loop-i.invariant.counted;
            few = (let is : c.if-is_some.count ≡ c.loop-i.count = w.count-is in omega (arith, few, is));
          }
    ]
