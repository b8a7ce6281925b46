use Rattle.std.proofs.Common.{◌≡◌, take, map}
use Rattle.cml_scan.specs.World.{pending_from}
use Rattle.cml_book.proofs.thread.pending_threads.Given as goal

-- the pending ones among the threads so far
abbrev pub invariant-loop-i : goal.invariant-loop-i
invariant-loop-i l = record { told : map (λ t. t.0) l.tids.items ≡ map (λ e. e.thread) (pending_from 0 (take l.i l.fn.threads)) }
