use Rattle.std.proofs.Common.{◌≡◌, ◌++◌, map, take}
use Rattle.std.specs.List.{flat_map}
use Rattle.cml_phrase.specs.Names.{let_name}
use Rattle.cml_phrase.proofs.name.push_lets.Given as goal

abbrev pub invariant-loop-form : goal.invariant-loop-form
invariant-loop-form l = map (λ name. name.now) l.names.items ≡ map (λ name. name.now) l.fn.names.items ++ flat_map let_name (map (λ s. s.now) (take l.form-index l.found))
