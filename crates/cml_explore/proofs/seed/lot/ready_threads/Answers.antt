use Rattle.std.proofs.Common.{◌≡◌, ◌++◌, arith, subst}
use Rattle.std.specs.Prelude.{Some, slice_get}
use Rattle.cml_scan.specs.World.{PlainWorld, PlainThread}
use Rattle.cml_explore.specs.Lots.{ready_of}
use Rattle.cml_explore.proofs.LotLemmas.{ready_more, ready_all}
use Rattle.cml_explore.proofs.seed.lot.ready_threads.Goals as goal

pub loop-t-preserved : goal.loop-t-preserved
loop-t-preserved c =
    ready_more c.book.ensures c.loop-t.t _ _ _ (omega arith)
    (subst (λ (w : PlainWorld). (t : PlainThread) → slice_get w.threads c.loop-t.t ≡ Some t → c.push_ready.new.ready.items ≡ c.loop-t.ready.items ++ ready_of c.loop-t.t t)
    c.book-in-loop-t.ensures c.in_ok-push_ready.ensures)
    c.loop-t.invariant

pub returns : goal.returns
returns c = ready_all c.book.ensures c.loop-t.t _ _ (omega arith) c.loop-t.invariant
