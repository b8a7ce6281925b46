use Rattle.std.proofs.Common.{◌≡◌, drop}
use Rattle.cml_picture.specs.Links.{mark_of}
use Rattle.cml_picture.proofs.layout.link.mark_of.Given as goal

-- none so far is of the item
abbrev pub invariant-loop-mark : goal.invariant-loop-mark
invariant-loop-mark l = mark_of l.item (drop l.mark-index l.marks) ≡ mark_of l.item l.marks
