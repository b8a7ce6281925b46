use Rattle.std.proofs.Common.{◌≡◌, ◌≤◌, take, length}
use Rattle.cml_scan.specs.World.{pending_from}
use Rattle.cml_book.proofs.thread.pending_count.Given as goal

-- how many of the threads so far are pending
abbrev pub invariant-loop-i : goal.invariant-loop-i
invariant-loop-i l = record { counted : l.count ≡ length (pending_from 0 (take l.i l.fn.threads)); few : l.count ≤ l.i }
