use Rattle.std.proofs.Common.{◌≡◌, take}
use Rattle.cml_picture.specs.Layouts.{AreStacked, top_row}
use Rattle.cml_picture.specs.Stacks.{bottom_of}
use Rattle.cml_picture.proofs.words.label.Speaker.item_marks.Given as goal

-- the marks so far stand one below the other
abbrev pub invariant-loop-happened : goal.invariant-loop-happened
invariant-loop-happened l = record {
  down : l.at ≡ bottom_of (take l.happened-index l.stack.shown.items);
  stacked : AreStacked top_row l.marks.items l.at;
}
