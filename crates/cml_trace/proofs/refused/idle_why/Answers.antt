use Rattle.std.proofs.Common.{sym, slice_get}
use Rattle.cml_trace.proofs.ThreadLemmas.{idle_pending, idle_past}
use Rattle.cml_trace.proofs.refused.idle_why.Goals as goal

pub returns-in-Some : goal.returns-in-Some
returns-in-Some g c = let t = c.args.thread.0 in sym (idle_pending (slice_get c.args.book.now.threads t) _ t c.args.act (sym c.in-Some.ensures))

pub returns-in-None : goal.returns-in-None
returns-in-None g c = let t = c.args.thread.0 in sym (idle_past (slice_get c.args.book.now.threads t) t c.args.act (sym c.in-None.ensures))
