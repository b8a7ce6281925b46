use Rattle.std.proofs.Common.{map, take}
use Rattle.cml_picture.specs.Views.{attribute_name}
use Rattle.cml_picture.specs.WellFormed.{AreAttributes}
use Rattle.cml_picture.proofs.svg.xml.attributes_text.Given as goal

-- the attributes so far
abbrev pub invariant-loop-attribute : goal.invariant-loop-attribute
invariant-loop-attribute l = AreAttributes (map attribute_name (take l.attribute-index l.attributes)) l.text.items
