use Rattle.std.proofs.Common.{arith}
use Rattle.cml_facts.proofs.ThreadLemmas.{one_thread_more, no_thread_more}
use Rattle.cml_facts.specs.FallViews.{fall_in}
use Rattle.cml_facts.proofs.DetailLemmas.{details_made}
use Rattle.cml_facts.proofs.fault.details.Ended.push_threads.Goals as goal

pub loop-t-preserved : goal.loop-t-preserved
loop-t-preserved c = one_thread_more (details_made c.args.self.now.hub.now.course (fall_in c.args.self.now.falls.now)) c.book.ensures c.loop-t.t _ _ _
    (omega arith) c.in_ok-push_thread.ensures c.loop-t.invariant

pub returns : goal.returns
returns c = no_thread_more (details_made c.args.self.now.hub.now.course (fall_in c.args.self.now.falls.now)) c.book.ensures c.loop-t.t _ _ (omega arith) c.loop-t.invariant
