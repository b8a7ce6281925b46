use Rattle.cml_text.specs.Lines.{lines}
use Rattle.cml_properties.proofs.JudgedLemmas.{JudgedOn}
use Rattle.cml_properties.proofs.judged.judge.Given as goal

-- what is said of the properties that are left, behind what was said, is said of all
abbrev pub invariant-loop-property : goal.invariant-loop-property
invariant-loop-property l = JudgedOn (lines l.first) l.run l.properties l.property-index l.judged.items
