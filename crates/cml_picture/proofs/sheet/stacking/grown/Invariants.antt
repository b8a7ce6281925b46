use Rattle.std.proofs.Common.{◌≡◌, ◌≤◌, take}
use Rattle.cml_picture.specs.Stacks.{bottom_below, count_with}
use Rattle.cml_picture.proofs.sheet.stacking.grown.Given as goal

-- how far down the rows so far go, and how many there are
abbrev pub invariant-loop-sign : goal.invariant-loop-sign
invariant-loop-sign l = record {
  bottom : l.below ≡ bottom_below l.bottom (take l.sign-index l.signs);
  count : l.counted ≡ count_with l.count (take l.sign-index l.signs);
  low : l.below ≤ 1000000000;
  few : l.counted ≤ 2000;
}
