use Rattle.std.proofs.Common.{◌≡◌, length}
use Rattle.cml_trace.proofs.EngineLemmas.{Standing}
use Rattle.cml_trace.proofs.engine.answer_lines.Given as goal

abbrev pub invariant-loop-book : goal.invariant-loop-book
invariant-loop-book g l =
    Standing l.fn.book l.fn.lines l.lines l.book l.fn.page l.page (g.W.Write.contents l.fn.writer.stream.now) (g.W.Write.contents l.writer.stream.now)
    × (l.writer.stream.ghost_name ≡ l.fn.writer.stream.ghost_name)
    × (l.writer.failed ≡ 0)

abbrev pub decreases-loop-book : goal.decreases-loop-book
decreases-loop-book g l = length l.lines.left
