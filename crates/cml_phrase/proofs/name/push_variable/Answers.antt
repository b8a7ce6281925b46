use Rattle.std.proofs.Common.{◌++◌, ◌∷◌, [], map, ap, ◌∙◌}
use Rattle.cml_phrase.proofs.NameLemmas.{let_of}
use Rattle.cml_phrase.proofs.name.push_variable.Goals as goal

pub returns : goal.returns
returns c =
    c.in_ok-push_name.ensures
    ∙ ap (λ name. map (λ n. n.now) c.args.names.now.items ++ name ∷ []) c.form_name.ensures
    ∙ ap (λ names. map (λ n. n.now) c.args.names.now.items ++ names) (let_of c.args.behind.now c.name-item.result c.in-len2.len_at_least c.in-len2.len_below c.name-item.is)
