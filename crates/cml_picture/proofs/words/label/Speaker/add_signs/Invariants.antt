use Rattle.std.proofs.Common.{◌≡◌, ℕ, take}
use Rattle.cml_picture.specs.Layouts.{AreStacked}
use Rattle.cml_picture.specs.Stacks.{bottom_below}
use Rattle.cml_picture.proofs.words.label.Speaker.add_signs.Given as goal

-- the marks so far stand one below the other
abbrev pub invariant-loop-sign : goal.invariant-loop-sign
invariant-loop-sign l = record {
  down : l.at ≡ bottom_below l.top (take l.sign-index l.signs);
  stacked : (from : ℕ) → AreStacked from l.fn.marks.items l.top → AreStacked from l.marks.items l.at;
}
