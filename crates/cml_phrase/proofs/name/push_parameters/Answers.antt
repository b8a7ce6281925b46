use Rattle.std.proofs.Common.{◌++◌, map, ap, ◌∙◌}
use Rattle.cml_phrase.specs.Names.{form_name}
use Rattle.cml_phrase.proofs.NameLemmas.{parameters_of}
use Rattle.cml_phrase.proofs.name.push_parameters.Goals as goal

pub returns : goal.returns
returns c =
    c.in_ok-push_names.ensures
    ∙ ap (λ parts. map (λ name. name.now) c.args.names.now.items ++ map form_name parts)
    (parameters_of c.args.forms.now c.parts.result.now c.list-item.result c.in-len3-up.len_at_least c.list-item.is c.parts.ensures)
