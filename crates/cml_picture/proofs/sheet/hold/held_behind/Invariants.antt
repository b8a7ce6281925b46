use Rattle.std.proofs.Common.{◌≡◌, drop}
use Rattle.cml_picture.specs.Holds.{held_behind}
use Rattle.cml_picture.proofs.sheet.hold.held_behind.Given as goal

-- none so far that fills it
abbrev pub invariant-loop-happened : goal.invariant-loop-happened
invariant-loop-happened l = held_behind l.hand l.from (drop l.happened-index l.behind) ≡ held_behind l.hand l.from l.behind
