use Rattle.std.proofs.Common.{◌≡◌}
use Rattle.cml_hub.specs.Kept.{NoneOut}
use Rattle.cml_facts.specs.Narrators.{Knows}
use Rattle.cml_stream.specs.Streams.{stream}
use Rattle.cml_host.proofs.StoryLemmas.{Goes}
use Rattle.cml_host.proofs.explain.tell_until.Given as goal

-- the items so far have happened, and a first part of their story was written
abbrev pub invariant-loop-count : goal.invariant-loop-count
invariant-loop-count g l = record {
  none_out : NoneOut l.hub;
  knows : Knows l.hub.course l.narrator;
  goes : Goes l.fn.hub l.items l.count l.hub (stream (g.O.Write.contents l.fn.out.stream.now) (g.O.Write.contents l.out.stream.now));
  fine : l.out.failed ≡ l.fn.out.failed;
  same : l.out.stream.ghost_name ≡ l.fn.out.stream.ghost_name;
}
