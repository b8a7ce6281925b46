use Rattle.std.proofs.Common.{◌≡◌, ◌-◌, ◌≤◌, length, slice_get}
use Rattle.cml_text.specs.Lines.{lines}
use Rattle.cml_explain.proofs.unfit.unfit_line.Given as goal

-- the line is one of those that are left
abbrev pub invariant-loop-at : goal.invariant-loop-at
invariant-loop-at l = record {
  left : slice_get l.all.left (l.number - l.all.number) ≡ slice_get (lines l.text) (l.number - 1);
  first : 1 ≤ l.all.number;
}

abbrev pub decreases-loop-at : goal.decreases-loop-at
decreases-loop-at l = length l.all.left
