use Rattle.std.proofs.Common.{◌≡◌, take}
use Rattle.std.specs.List.{flat_map}
use Rattle.cml_work.specs.Lines.{waits_line}
use Rattle.cml_stream.specs.Streams.{stream, Takes}
use Rattle.cml_work.proofs.reports.send_waiting.Given as goal

-- the lines so far were written
abbrev pub invariant-loop-thread : goal.invariant-loop-thread
invariant-loop-thread g l =
    Takes (stream (g.W.Write.contents l.fn.writer.stream.now) (g.W.Write.contents l.writer.stream.now)) (flat_map waits_line (take l.thread-index l.threads))
    × (l.writer.failed ≡ l.fn.writer.failed)
    × (l.writer.stream.ghost_name ≡ l.fn.writer.stream.ghost_name)
