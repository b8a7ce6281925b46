use Rattle.std.proofs.Common.{arith}
use Rattle.cml_facts.proofs.ThreadLemmas.{one_thread_more, no_thread_more}
use Rattle.cml_explore.specs.SightViews.{plain_sight}
use Rattle.cml_explore.proofs.SightLemmas.{threads_made}
use Rattle.cml_explore.proofs.sight.Sighted.threads.Goals as goal

pub loop-t-preserved : goal.loop-t-preserved
loop-t-preserved c = one_thread_more (threads_made (plain_sight c.args.self.now)) c.book.ensures c.loop-t.t _ _ _ (omega arith) c.in_ok-push_thread.ensures c.loop-t.invariant

pub returns : goal.returns
returns c = no_thread_more (threads_made (plain_sight c.args.self.now)) c.book.ensures c.loop-t.t _ _ (omega arith) c.loop-t.invariant
