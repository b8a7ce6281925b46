use Rattle.std.proofs.Common.{◌≡◌, ◌++◌, length}
use Rattle.cml_text.specs.Lines.{lines}
use Rattle.cml_properties.specs.Agreements.{texts}
use Rattle.cml_properties.proofs.breach.lines_of.Given as goal

-- what was found and what is left are all lines
abbrev pub invariant-loop-line : goal.invariant-loop-line
invariant-loop-line l = texts l.found.items ++ l.all.left ≡ lines l.output

abbrev pub decreases-loop-line : goal.decreases-loop-line
decreases-loop-line l = length l.all.left
