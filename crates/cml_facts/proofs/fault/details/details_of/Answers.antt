use Rattle.cml_facts.specs.FallViews.{fall_in}
use Rattle.cml_facts.proofs.FallLemmas.{details_so}
use Rattle.cml_facts.proofs.fault.details.details_of.Goals as goal

pub returns : goal.returns
returns c = details_so c.details.result c.args.hub.now (fall_in c.in_ok-falls.falls) c.in_ok-falls.ensures c.details.ensures
