use Rattle.cml_properties.specs.Agreements.{texts}
use Rattle.cml_properties.proofs.BreachLemmas.{ToldOn}
use Rattle.cml_properties.proofs.breach.breaches.Given as goal

-- what is told of the runs that are left, behind what was found, is told of all
abbrev pub invariant-loop-index : goal.invariant-loop-index
invariant-loop-index l = ToldOn l.property (texts l.first_lines.items) l.runs l.index l.found.items
