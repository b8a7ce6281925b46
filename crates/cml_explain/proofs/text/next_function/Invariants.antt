use Rattle.std.proofs.Common.{◌≡◌, ◌+◌, drop}
use Rattle.cml_explain.specs.Texts.{next_function}
use Rattle.cml_explain.proofs.text.next_function.Given as goal

-- none of the lines so far is one
abbrev pub invariant-loop-i : goal.invariant-loop-i
invariant-loop-i l = next_function (l.at + l.i) (drop l.i l.bytes) ≡ next_function l.at l.bytes
