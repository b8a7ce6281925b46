use Rattle.std.proofs.Common.{◌≡◌, [], IsTrue}
use Rattle.cml_stream.specs.Streams.{stream}
use Rattle.cml_hub.specs.Kept.{NoneOut}
use Rattle.cml_stepper.specs.Steppers.{FollowsTo, places_known}
use Rattle.cml_host.specs.Stepped.{TalksOn}
use Rattle.cml_host.proofs.step.talk.Given as goal

abbrev pub invariant-loop : goal.invariant-loop
invariant-loop g l = record {
  stands : TalksOn (places_known l.fn.stepper) l.fn.hub [] l.typed.items l.hub (stream (g.I.Read.remaining l.fn.input.stream.now) (g.I.Read.remaining l.input.stream.now))
      (stream (g.O.Write.contents l.fn.out.stream.now) (g.O.Write.contents l.out.stream.now));
  script : places_known l.stepper ≡ places_known l.fn.stepper;
  none_out : NoneOut l.hub;
  there : FollowsTo l.hub.course l.stepper;
  calls : l.input.calls ≡ l.counter;
  unread : l.input.failed ≡ 0;
  unwritten : l.out.failed ≡ 0;
  flushed : IsTrue l.out.flushed;
  same_in : l.input.stream.ghost_name ≡ l.fn.input.stream.ghost_name;
  same_out : l.out.stream.ghost_name ≡ l.fn.out.stream.ghost_name;
}
