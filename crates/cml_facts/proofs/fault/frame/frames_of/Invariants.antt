use Rattle.std.proofs.Common.{◌≡◌, ◌<◌, ℕ, length, map}
use Rattle.std.specs.Prelude.{slice_get}
use Rattle.cml_facts.specs.Frames.{IsFrame}
use Rattle.cml_facts.specs.FaultViews.{held_call, plain_places}
use Rattle.cml_facts.proofs.fault.frame.frames_of.Given as goal

-- the frames of the calls so far
abbrev pub invariant-loop-i : goal.invariant-loop-i
invariant-loop-i l = record {
  count : length l.frames.items ≡ l.i;
  each : (n : ℕ) → n < l.i → IsFrame (plain_places l.sources.places.now) l.sources.hub.now.course.program (slice_get (map (λ call. held_call call.now) l.calls) n) (slice_get l.frames.items n);
}
