use Rattle.std.proofs.Common.{◌≡◌}
use Rattle.cml_stream.specs.Streams.{stream}
use Rattle.cml_host.specs.Narrated.{Writes}
use Rattle.cml_host.proofs.explore.show_from.Given as goal

-- the runs so far were shown
abbrev pub invariant-loop-made : goal.invariant-loop-made
invariant-loop-made g l = record {
  wrote : Writes (stream (g.E.Write.contents l.fn.err.stream.now) (g.E.Write.contents l.err.stream.now));
  fine : l.err.failed ≡ l.fn.err.failed;
  same : l.err.stream.ghost_name ≡ l.fn.err.stream.ghost_name;
}
