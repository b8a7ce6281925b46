use Rattle.cml_judge.proofs.SpotLemmas.{ToldOn}
use Rattle.cml_judge.proofs.breaks.breaks_of.Given as goal

-- what is told of the properties that are left, behind what was told, is told of all
abbrev pub invariant-loop-property : goal.invariant-loop-property
invariant-loop-property l = ToldOn l.hub l.judged l.property l.told.items
