use Rattle.std.proofs.Common.{◌≡◌, ◌++◌, List, map, take}
use Rattle.cml_properties.specs.declared.property.Property.{Property}
use Rattle.cml_host.specs.Wanted.{AreGiven}
use Rattle.cml_host.proofs.wanted.push_given.Given as goal

-- those of the texts so far
abbrev pub invariant-loop-text : goal.invariant-loop-text
invariant-loop-text l = (more : List Property) × AreGiven l.kind (map (λ text. text.now) (take l.text-index l.texts)) more × (l.found.items ≡ l.fn.found.items ++ more)
