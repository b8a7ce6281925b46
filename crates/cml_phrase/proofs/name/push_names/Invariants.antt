use Rattle.std.proofs.Common.{◌≡◌, ◌++◌, map, take}
use Rattle.cml_phrase.specs.Names.{form_name}
use Rattle.cml_phrase.proofs.name.push_names.Given as goal

abbrev pub invariant-loop-form : goal.invariant-loop-form
invariant-loop-form l = map (λ name. name.now) l.names.items ≡ map (λ name. name.now) l.fn.names.items ++ map form_name (take l.form-index l.forms)
