use Rattle.std.proofs.Common.{◌≡◌, ◌++◌, drop}
use Rattle.cml_picture.specs.Holds.{all_held}
use Rattle.cml_picture.proofs.sheet.hold.holds_of.Given as goal

-- those so far, and those to come
abbrev pub invariant-loop-at : goal.invariant-loop-at
invariant-loop-at l = l.all.items ++ all_held (drop l.at l.shown) ≡ all_held l.shown
