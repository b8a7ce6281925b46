use Rattle.std.proofs.Common.{◌≡◌, ◌≤◌, take}
use Rattle.std.specs.List.{fold}
use Rattle.cml_picture.proofs.FrameLemmas.{reached}
use Rattle.cml_picture.proofs.layout.frame.height_of.Given as goal

-- the lowest end of a row so far
abbrev pub invariant-loop-mark : goal.invariant-loop-mark
invariant-loop-mark l = record {
  down : l.reach ≡ fold reached 40 (take l.mark-index l.marks);
  small : l.reach ≤ 8589934592;
}
