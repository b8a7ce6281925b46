use Rattle.std.proofs.Common.{◌≡◌, ◌≤◌, ◌-◌}
use Rattle.cml_explore.specs.Explored.{SoFar}
use Rattle.cml_stream.specs.Streams.{stream}
use Rattle.cml_host.specs.Exploring.{ShowsMarks}
use Rattle.cml_host.proofs.explore.make_runs.Given as goal

-- the runs so far were made and shown
abbrev pub invariant-runs : goal.invariant-runs
invariant-runs g l = record {
  so_far : SoFar l.program l.asked l.made;
  few : l.made.runs ≤ l.asked.runs;
  shows : ShowsMarks l.shows (stream (g.E.Write.contents l.fn.err.stream.now) (g.E.Write.contents l.err.stream.now));
  fine : l.err.failed ≡ l.fn.err.failed;
  same : l.err.stream.ghost_name ≡ l.fn.err.stream.ghost_name;
}

abbrev pub decreases-runs : goal.decreases-runs
decreases-runs g l = l.asked.runs - l.made.runs
