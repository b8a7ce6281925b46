use Rattle.cml_properties.proofs.LawLemmas.{stays_broken}
use Rattle.cml_properties.proofs.law.stays_broken.Goals as goal

pub returns : goal.returns
returns c = stays_broken
