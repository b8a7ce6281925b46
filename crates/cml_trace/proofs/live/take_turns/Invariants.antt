use Rattle.std.proofs.Common.{◌≡◌, ◌+◌, ◌*◌, ◌≤◌, IsTrue}
use Rattle.cml_stream.specs.Streams.{stream}
use Rattle.cml_trace.proofs.LiveLemmas.{Talking}
use Rattle.cml_trace.proofs.live.take_turns.Given as goal

abbrev pub invariant-loop : goal.invariant-loop
invariant-loop g l = record {
  stands : Talking l.book l.begun (stream (g.R.Read.remaining l.fn.reader.stream.now) (g.R.Read.remaining l.reader.stream.now))
      (stream (g.W.Write.contents l.fn.writer.stream.now) (g.W.Write.contents l.writer.stream.now));
  room : l.begun.number ≤ 1 + 4096 * l.counter;
  calls : l.reader.calls ≡ l.counter;
  unread : l.reader.failed ≡ 0;
  unwritten : l.writer.failed ≡ 0;
  flushed : IsTrue l.fn.writer.flushed → IsTrue l.writer.flushed;
  same_in : l.reader.stream.ghost_name ≡ l.fn.reader.stream.ghost_name;
  same_out : l.writer.stream.ghost_name ≡ l.fn.writer.stream.ghost_name;
}
