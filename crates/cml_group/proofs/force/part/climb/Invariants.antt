use Rattle.std.proofs.Common.{◌≡◌, drop}
use Rattle.cml_group.specs.Frames.{plug}
use Rattle.cml_group.specs.FrameViews.{plain_part}
use Rattle.cml_group.proofs.force.part.climb.Given as goal

-- the event so far, in the frames to come, is the whole
abbrev pub invariant-loop-frame : goal.invariant-loop-frame
invariant-loop-frame l = plug (drop l.frame-index l.frames) (plain_part l.part) ≡ plug l.frames (plain_part l.initial.part)
