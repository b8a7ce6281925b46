use Rattle.cml_facts.specs.FallViews.{fall_in}
use Rattle.cml_facts.proofs.FallLemmas.{fallen_so}
use Rattle.cml_facts.proofs.fault.details.fallen_details_of.Goals as goal

pub returns : goal.returns
returns c = fallen_so c.fallen.result c.args.hub.now (fall_in c.in_ok-falls.falls) c.in_ok-falls.ensures c.fallen.ensures
