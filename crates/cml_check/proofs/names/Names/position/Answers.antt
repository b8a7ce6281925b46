use Rattle.std.proofs.Common.{◌∙◌, ap, position}
use Rattle.std.specs.Str.{bytes_eq}
use Rattle.cml_check.proofs.NameLemmas.{position-kept}
use Rattle.cml_check.proofs.names.Names.position.Goals as goal

pub returns-clause-first : goal.returns-clause-first
returns-clause-first c = c.get_index_of.ensures.index ∙ position-kept c.args.name.now c.self.inside.set.keys ∙ ap (position (bytes_eq c.args.name.now)) c.self.view_is
