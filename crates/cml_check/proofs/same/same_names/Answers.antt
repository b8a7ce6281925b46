use Rattle.cml_check.proofs.SameLemmas.{same_texts}
use Rattle.cml_check.proofs.same.same_names.Goals as goal

pub returns : goal.returns
returns c = same_texts c.args.names.now c.args.others.now _ c.eq.ensures
