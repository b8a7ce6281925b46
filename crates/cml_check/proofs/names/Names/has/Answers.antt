use Rattle.std.proofs.Common.{◌∙◌, ap}
use Rattle.cml_check.specs.Names.{has_name}
use Rattle.cml_check.proofs.NameLemmas.{among-kept}
use Rattle.cml_check.proofs.names.Names.has.Goals as goal

pub returns : goal.returns
returns c = c.contains.ensures ∙ among-kept c.args.name.now c.self.inside.set.keys ∙ ap (λ names. has_name names c.args.name.now) c.self.view_is
