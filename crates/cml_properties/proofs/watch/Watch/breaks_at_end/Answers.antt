use Rattle.std.proofs.Common.{◌∙◌}
use Rattle.cml_properties.proofs.HoldLemmas.{end_step}
use Rattle.cml_properties.proofs.watch.Watch.breaks_at_end.Goals as goal

pub returns : goal.returns
returns c = λ lines seen. c.is_broken_at_end.ensures ∙ end_step c.args.self.now.property.now lines c.args.finish c.args.self.now.marked seen.marked seen.kept
