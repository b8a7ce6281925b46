use Rattle.std.proofs.Common.{take}
use Rattle.cml_properties.specs.Agreements.{texts}
use Rattle.cml_properties.specs.Breaches.{AreLinesOf}
use Rattle.cml_properties.proofs.breach.printed_of.Given as goal

-- so many lines were read
abbrev pub invariant-loop-line : goal.invariant-loop-line
invariant-loop-line l = AreLinesOf (texts (take l.line-index l.lines)) l.found.items
