use Rattle.std.proofs.Common.{◌≡◌, ◌++◌, drop}
use Rattle.cml_group.proofs.force.frame.add_frames.Given as goal

-- those there and those to come are all
abbrev pub invariant-loop-frame : goal.invariant-loop-frame
invariant-loop-frame l = l.all.items ++ drop l.frame-index l.frames ≡ l.initial.all.items ++ l.frames
