use Rattle.std.proofs.Common.{◌<◌, length, map, refl, sym, ◌∙◌, ap, arith}
use Rattle.cml_book.proofs.PendingThreads.{other_more, pending_more, waits_if, else_not}
use Rattle.cml_book.proofs.thread.pending_threads.Goals.{then-is_some+in_ok-push, else-is_some}
use Rattle.cml_book.proofs.thread.pending_threads.Goals as goal

pub loop-i-preserved : goal.loop-i-preserved
loop-i-preserved c =
    let lt : c.loop-i.i < length c.args.threads.now = search (arith, c.loop-i-test.true) in
    elim c.if-is_some.branch [
      | then-is_some+in_ok-push w ↦
          let waits = waits_if c.flat.result c.index-threads-i.result c.flat.ensures (sym c.is_some.ensures ∙ w.if-is_some.true) in
          record {
            told = ap (λ v. map (λ t. t.0) v.items) w.tids-is ∙ ap (map (λ t. t.0)) w.in_ok-push.ensures.items
                ∙ pending_more c.args.threads.now c.loop-i.i c.index-threads-i.result waits.0 (record {
                  0 = c.loop-i.i;
                }) c.loop-i.tids.items lt c.index-threads-i.is waits.1 refl c.loop-i.invariant.told;
          }
      | else-is_some w ↦
          let none = else_not c.flat.result c.index-threads-i.result c.flat.ensures (sym c.is_some.ensures ∙ w.if-is_some.false) in
          record {
            told = ap (λ v. map (λ t. t.0) v.items) w.tids-is
                ∙ other_more c.args.threads.now c.loop-i.i c.index-threads-i.result c.loop-i.tids.items lt
                c.index-threads-i.is none c.loop-i.invariant.told;
          }
    ]
