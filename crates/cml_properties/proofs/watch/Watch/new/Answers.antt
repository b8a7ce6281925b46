use Rattle.std.proofs.Common.{refl}
use Rattle.cml_properties.proofs.BreakLemmas.{kept_none}
use Rattle.cml_properties.proofs.watch.Watch.new.Goals as goal

pub returns-clause-seen : goal.returns-clause-seen
returns-clause-seen c = record { marked = refl; kept = kept_none c.args.property.now }
