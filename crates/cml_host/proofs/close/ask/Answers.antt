use Rattle.std.proofs.Common.{◌∙◌, ◌||◌, List, Bool, is_some, ap}
use Rattle.cml_properties.specs.declared.property.Property.{Property}
use Rattle.cml_host.specs.Closed.{is_asked}
use Rattle.cml_host.proofs.ClosedLemmas.{asked_so}
use Rattle.cml_host.proofs.close.ask.Goals as goal

pub returns-clause-asked : goal.returns-clause-asked
returns-clause-asked c =
    asked_so c.args.explains c.either-keeps.result (is_some c.keep_where-subject.result) c.args.strict c.args.servers.items c.args.properties.items c.args.stops c.keep_where-subject.ensures

pub returns-clause-kept : goal.returns-clause-kept
returns-clause-kept c =
    c.keep_where-subject.ensures
    ∙ ap (λ (b : Bool). c.args.explains || b)
    (c.either-keeps.ensures ∙ ap (λ (b : Bool). c.args.draws || b) (c.some_asked.ensures ∙ ap (λ (ps : List Property). is_asked ps) c.as_slice.ensures.value))
