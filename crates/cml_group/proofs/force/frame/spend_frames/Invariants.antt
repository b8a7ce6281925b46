use Rattle.std.proofs.Common.{◌≡◌, ◌+◌, drop, length}
use Rattle.cml_value.specs.Limits.{is_within, max_depth, max_nodes}
use Rattle.cml_group.specs.Frames.{sides_depth, sides_nodes}
use Rattle.cml_group.proofs.force.frame.spend_frames.Given as goal

-- what was spent is what the frames so far have, and whether it is enough for all rests on the rest
abbrev pub invariant-loop-frame : goal.invariant-loop-frame
invariant-loop-frame l =
    let rest = drop l.frame-index l.frames in
    (max_nodes + sides_nodes rest ≡ l.left + sides_nodes l.frames)
    × (l.depth + length l.frames ≡ max_depth + l.frame-index)
    × (is_within max_depth l.left (sides_depth rest) (sides_nodes rest) ≡ is_within max_depth max_nodes (sides_depth l.frames) (sides_nodes l.frames))
